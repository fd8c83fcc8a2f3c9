-- `charging::count_next` meets its contract. The invariant: the counts of the columns before c are raised, and the others are as they were.
use Rattle.charging.proofs.Changes.{Raising}
use Rattle.charging.proofs.count_next.Given as goal

abbrev pub invariant-loop-c : goal.invariant-loop-c
invariant-loop-c l = Raising l.table l.start l.initial.counts l.counts l.c
