-- `crossed_sheet::put_crossed_runs` meets its contract. The invariant: the first runs are put, up to `place`.
use mathlib.Core.List.{flat_map}
use Rattle.finite.specs.Lists.{from}
use Rattle.buffers.specs.Put.{Put}
use Rattle.ingredients.specs.Named.{table_in}
use Rattle.crossed_sheet.specs.Crossing.{beside_run}
use Rattle.crossed_sheet.proofs.put_crossed_runs.Given as goal

abbrev pub invariant-loop-run : goal.invariant-loop-run
invariant-loop-run l =
    Put l.initial.buf 0 (flat_map (beside_run l.rows (table_in l.list l.h) l.table l.width) (from 0 l.run)) l.buf l.place
