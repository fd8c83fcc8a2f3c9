-- `table_putting::put_runs` meets its contract. The invariant: the first runs are put, up to `place`.
use mathlib.Core.List.{flat_map}
use Rattle.finite.specs.Lists.{from}
use Rattle.buffers.specs.Put.{Put}
use Rattle.ingredients.specs.Named.{table_in}
use Rattle.layout.specs.Bytes.{run_of}
use Rattle.table_putting.proofs.put_runs.Given as goal

abbrev pub invariant-loop-run : goal.invariant-loop-run
invariant-loop-run l = Put l.initial.buf 0 (flat_map (run_of (table_in l.list l.table)) (from 0 l.run)) l.buf l.place
