-- `charging::count_changes` meets its contract. The invariant: the runs up to this one are counted.
use lib.ListN.{length}
use Rattle.charging.proofs.Changes.{Counting}
use Rattle.charging.proofs.count_changes.Given as goal

abbrev pub invariant-loop-run : goal.invariant-loop-run
invariant-loop-run l = Counting l.table (length l.initial.counts) l.run l.counts
