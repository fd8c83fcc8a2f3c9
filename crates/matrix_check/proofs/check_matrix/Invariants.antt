-- `check_matrix` meets its contract: the pairs before the one in hand have even differences, and the counters are zero between two pairs.
-- Assumes nothing.
use Prim.Native.Nat.{◌*◌}
use Rattle.finite.proofs.PairOrder.{Searched, left}
use Rattle.counting.specs.Matrix.{matrix_of}
use Rattle.counting.specs.Verdict.{difference_fault}
use Rattle.tally.specs.Tally.{Cleared}
use Rattle.matrix_check.specs.Differences.{DifferencesOf}
use Rattle.matrix_check.proofs.check_matrix.Given as goal

abbrev pub invariant-loop-pair : goal.invariant-loop-pair
invariant-loop-pair l =
    DifferencesOf l.p (l.p * l.p) l.differences × Cleared l.counters × Searched (difference_fault (matrix_of l.entries l.rows l.columns l.p)) l.columns l.pair

abbrev pub decreases-loop-pair : goal.decreases-loop-pair
decreases-loop-pair l = left l.columns l.pair
