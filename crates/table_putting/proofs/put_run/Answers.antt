-- `table_putting::put_run` meets its contract. The invariant: the levels of the first columns are put, up to `place`.
use mathlib.Core.Path.{◌≡◌}
use native.Mathlib.Omega.{arith}
use Rattle.counting.specs.Table.{columns}
use Rattle.ingredients.specs.Named.{table_in}
use Rattle.layout.specs.Bytes.{run_of}
use Rattle.layout.proofs.Rows.{values_none, values_next, values_room}
use Rattle.table_putting.proofs.put_run.Goals as goal

pub loop-column-init : goal.loop-column-init
loop-column-init c = values_none _ (omega arith)

pub put_byte-place-requires : goal.put_byte-place-requires
put_byte-place-requires c =
    values_room _ _ _ c.loop-column.invariant c.loop-column-test.true (rw c.column_count-width.ensures c.requires.table_in_bounds)

pub loop-column-preserved : goal.loop-column-preserved
loop-column-preserved c = values_next _ c.loop-column.invariant (rw c.level.ensures at c.put_byte-place.ensures)

pub returns : goal.returns
unfolding run_of
returns c =
    let all : c.loop-column.column ≡ columns (table_in c.args.list.now c.args.table) = omega (arith, c.column_count-width.ensures) in
    rw all at c.loop-column.invariant
