-- `passing::first_failing` meets its contract. The invariant: what the ingredients after the first i come to is what all come to, and the
-- buffers are as they were.
-- Assumes nothing.
use mathlib.Core.Path.{◌≡◌}
use Prim.Native.Nat.{◌-◌}
use Rattle.order.specs.Grammar.{read_order}
use Rattle.question_4.specs.Passing.{passing_of, passing_in}
use Rattle.question_4.proofs.Questions.{rest_of}
use Rattle.passing.proofs.first_failing.Given as goal

abbrev pub invariant-loop-i : goal.invariant-loop-i
invariant-loop-i l =
    (passing_of (rest_of (read_order l.list) l.i) ≡ passing_in (read_order l.list)) × (l.cells ≡ l.initial.cells) × (l.numbers ≡ l.initial.numbers)
