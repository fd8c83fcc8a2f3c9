-- `tally_differences` meets its contract: after each row the counters hold the counts of the differences so far.
-- Assumes nothing.
use Rattle.counting.specs.Matrix.{matrix_of, row_difference}
use Rattle.tally.specs.Tally.{Tallied}
use Rattle.matrix_check.proofs.differences.tally_differences.Given as goal

abbrev pub invariant-loop-row : goal.invariant-loop-row
invariant-loop-row l =
    Tallied l.counters l.row (row_difference (matrix_of l.entries l.rows l.columns l.p) l.first l.second)
