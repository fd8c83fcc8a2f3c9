-- `table_putting::put_run` meets its contract. The invariant: the levels of the first columns are put, up to `place`.
use mathlib.Core.List.{map}
use Rattle.finite.specs.Lists.{from}
use Rattle.buffers.specs.Put.{Put}
use Rattle.ingredients.specs.Named.{table_in}
use Rattle.table_putting.proofs.put_run.Given as goal

abbrev pub invariant-loop-column : goal.invariant-loop-column
invariant-loop-column l = Put l.initial.buf l.at (map ((table_in l.list l.table).cell l.run) (from 0 l.column)) l.buf l.place
