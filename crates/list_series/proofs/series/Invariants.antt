-- `list_series::series` meets its contract. The invariant: reading what is left from the cursor on gives the answer of the whole.
use Rattle.std.proofs.Common.{◌≡◌, ◌-◌}
use Rattle.order.specs.Reader.{allowed, repeated}
use Rattle.order.specs.Grammar.{between}
use Rattle.order.specs.Answers.{walk_of}
use Rattle.list_series.proofs.series.Given as goal

abbrev pub invariant-loop : goal.invariant-loop
invariant-loop l =
    walk_of (repeated (l.n - l.counter) (allowed (between l.low l.high)) l.list l.c.at)
    ≡ walk_of (repeated l.n (allowed (between l.low l.high)) l.list l.initial.c.at)
