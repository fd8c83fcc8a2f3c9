-- `table_putting::put_level_counts` meets its contract. The invariant: the level counts of the first columns are put, up to `place`.
use mathlib.Core.List.{map}
use Rattle.finite.specs.Lists.{from}
use Rattle.buffers.specs.Put.{Put}
use Rattle.counting.specs.Table.{levels_of}
use Rattle.ingredients.specs.Named.{table_in}
use Rattle.table_putting.proofs.put_level_counts.Given as goal

abbrev pub invariant-loop-column : goal.invariant-loop-column
invariant-loop-column l = Put l.initial.buf l.at (map (levels_of (table_in l.list l.table)) (from 0 l.column)) l.buf l.place
