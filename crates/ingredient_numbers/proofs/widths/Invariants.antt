-- `ingredient_numbers::widths` meets its contract. The invariant: reading what is left from the cursor on, with the sum so far added, gives the
-- answer of the whole; and each width is at most 6, so the sum stays small.
use Rattle.std.proofs.Common.{◌≡◌, ◌-◌, ◌*◌, ◌≤◌}
use Rattle.order.specs.Reader.{allowed, repeated}
use Rattle.order.specs.Grammar.{factor_width}
use Rattle.order.specs.Answers.{total_of}
use Rattle.order.proofs.Answers.{plus}
use Rattle.ingredient_numbers.proofs.widths.Given as goal

abbrev pub invariant-loop : goal.invariant-loop
invariant-loop l =
    (l.sum ≤ 6 * l.counter)
    × (plus l.sum (total_of (repeated (l.n - l.counter) (allowed (factor_width l.s)) l.list l.c.at))
    ≡ total_of (repeated l.n (allowed (factor_width l.s)) l.list l.initial.c.at))
