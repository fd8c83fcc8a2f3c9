-- `rows::end_with_cells` meets its contract. The invariant: the numbers before this one are put, up to `place`, each in at most 4 bytes.
use Rattle.rows.proofs.Rows.{byte_short, first_room, first_next}
use Rattle.rows.proofs.end_with_cells.Goals as goal

pub put_spaced-place-requires : goal.put_spaced-place-requires
put_spaced-place-requires c =
    first_room c.loop-cell.invariant c.loop-cell-test.true (byte_short (c.type_inv.cells c.loop-cell.cell-index)) c.requires

pub loop-cell-preserved : goal.loop-cell-preserved
loop-cell-preserved c =
    first_next c.loop-cell.invariant c.loop-cell-test.true (byte_short (c.type_inv.cells c.loop-cell.cell-index)) c.put_spaced-place.ensures
