-- `table_examples::answer_calls` is safe, and ends: each call stands further on than the one before.
use Prim.Native.Nat.{◌-◌}
use lib.ListN.{length}
use Rattle.table_examples.proofs.answer_calls.Given as goal

abbrev pub decreases-loop-at : goal.decreases-loop-at
decreases-loop-at g l = length l.list - l.at
