-- `level_sums` meets its contract. The invariant: the sums before the place are there.
-- Assumes nothing.
use Rattle.generated_runs.specs.LevelSums.{SumsOf}
use Rattle.generating.proofs.level_sums.Given as goal

abbrev pub invariant-loop-place : goal.invariant-loop-place
invariant-loop-place l = SumsOf l.s l.width l.place l.sums
