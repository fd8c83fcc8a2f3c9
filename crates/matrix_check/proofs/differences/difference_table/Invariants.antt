-- `difference_table` meets its contract. The invariant: the sums before the one in hand have told their differences.
-- Assumes nothing.
use Rattle.matrix_check.proofs.Told.{Told}
use Rattle.matrix_check.proofs.differences.difference_table.Given as goal

abbrev pub invariant-loop-place : goal.invariant-loop-place
invariant-loop-place l = Told l.p l.place l.differences
