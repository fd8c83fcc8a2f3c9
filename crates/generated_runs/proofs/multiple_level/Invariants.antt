-- `multiple_level` meets its contract: the level so far is that of the columns so far, which stays below 64.
-- Assumes nothing.
use mathlib.Core.Path.{◌≡◌}
use Rattle.generated_runs.specs.LevelSums.{single}
use Rattle.generated_runs.proofs.FieldPlaces.{level_at}
use Rattle.generated_runs.proofs.multiple_level.Given as goal

abbrev pub invariant-loop-entry : goal.invariant-loop-entry
invariant-loop-entry l = l.level ≡ level_at l.list l.g (single l.g l.row l.digit) l.column l.entry-index
