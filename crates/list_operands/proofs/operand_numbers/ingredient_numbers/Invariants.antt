-- `list_operands::operand_numbers::ingredient_numbers` meets its contract. The invariant: reading what is left from the cursor on gives the answer of the whole.
use Rattle.std.proofs.Common.{◌≡◌, ◌-◌}
use Rattle.order.specs.Reader.{allowed, repeated}
use Rattle.order.specs.Grammar.{ingredient_number}
use Rattle.order.specs.Answers.{walk_of}
use Rattle.list_operands.proofs.operand_numbers.ingredient_numbers.Given as goal

abbrev pub invariant-loop : goal.invariant-loop
invariant-loop l =
    walk_of (repeated (l.n - l.counter) (allowed ingredient_number) l.list l.c.at)
    ≡ walk_of (repeated l.n (allowed ingredient_number) l.list l.initial.c.at)
