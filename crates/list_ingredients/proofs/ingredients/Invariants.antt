-- `list_ingredients::ingredients` meets its contract. The invariant: reading what is left from the cursor on gives the answer of the whole.
use Rattle.std.proofs.Common.{◌≡◌, ◌-◌}
use Rattle.order.specs.Reader.{repeated}
use Rattle.order.specs.Grammar.{read_ingredient}
use Rattle.order.specs.Answers.{walk_of}
use Rattle.list_ingredients.proofs.ingredients.Given as goal

abbrev pub invariant-loop : goal.invariant-loop
invariant-loop l =
    walk_of (repeated (l.n - l.counter) read_ingredient l.list l.c.at) ≡ walk_of (repeated l.n read_ingredient l.list l.initial.c.at)
