-- `list_steps::steps` meets its contract. The invariant: reading what is left from the cursor on gives the answer of the whole.
use Rattle.std.proofs.Common.{◌≡◌, ◌-◌}
use Rattle.order.specs.Reader.{repeated}
use Rattle.order.specs.Grammar.{read_step}
use Rattle.order.specs.Answers.{walk_of}
use Rattle.list_steps.proofs.steps.Given as goal

abbrev pub invariant-loop : goal.invariant-loop
invariant-loop l =
    walk_of (repeated (l.n - l.counter) read_step l.list l.c.at) ≡ walk_of (repeated l.n read_step l.list l.initial.c.at)
