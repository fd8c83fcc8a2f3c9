-- `put_levels` meets its contract. The invariant: the level counts of the first factors are put.
-- Assumes nothing.
use lib.ListN.{take}
use Rattle.buffers.specs.Put.{Put}
use Rattle.generated_runs.proofs.FieldSheet.{sheet_of}
use Rattle.generating.proofs.put_levels.Given as goal

abbrev pub invariant-loop-width : goal.invariant-loop-width
invariant-loop-width l = Put l.initial.levels 0 (take l.width-index (sheet_of l.list l.g).levels) l.levels l.place
