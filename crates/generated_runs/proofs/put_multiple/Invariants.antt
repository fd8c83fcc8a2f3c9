-- `put_multiple` meets its contract. The invariant: the levels of the first factors are put, and the next factor's columns start at `column`.
-- Assumes nothing.
use mathlib.Core.Path.{◌≡◌}
use lib.ListN.{take}
use Rattle.buffers.specs.Put.{Put}
use Rattle.layout.specs.Bytes.{run_of}
use Rattle.generated_runs.specs.LevelSums.{single}
use Rattle.generated_runs.proofs.FieldSheet.{sheet_of, columns_before}
use Rattle.generated_runs.proofs.put_multiple.Given as goal

abbrev pub invariant-loop-width : goal.invariant-loop-width
invariant-loop-width l =
    (l.column ≡ columns_before l.list l.g l.width-index)
    × Put l.initial.table l.at (take l.width-index (run_of (sheet_of l.list l.g) (single l.g l.row l.digit))) l.table l.place
