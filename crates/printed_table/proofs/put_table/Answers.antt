-- `printed_table::put_table` meets its contract: the three parts are put one after the other, and the buffer has room for them.
use native.Mathlib.Omega.{arith}
use mir.Facts.{Fits-of_z, sfits_to_z, to_z-of_z}
use Rattle.buffers.specs.Put.{Bytes}
use Rattle.printed_table.proofs.Tables.{levels_room, runs_room, put_printed}
use Rattle.printed_table.proofs.put_table.Goals as goal

pub put_row-after_levels-requires : goal.put_row-after_levels-requires
put_row-after_levels-requires c =
    let fits = c.requires.table_in_buffers in
    let word = sfits_to_z (Fits-of_z c.ranges.spare) in
    levels_room fits c.put_header-after_header.ensures (omega (arith, fits)) (omega (arith, fits)) word c.requires.answer_room_in_bounds

pub put_runs-requires-clause-columns_in_bounds : goal.put_runs-requires-clause-columns_in_bounds
unfolding Bytes
put_runs-requires-clause-columns_in_bounds c =
    let bytes : Bytes c.args.levels.now = λ k h. (c.type_inv.levels k).fits in
    let fits = c.requires.table_in_buffers in
    let word = sfits_to_z (Fits-of_z c.ranges.spare) in
    let room = runs_room fits c.put_header-after_header.ensures (omega (arith, fits)) (omega (arith, fits)) word c.put_row-after_levels.ensures in room bytes c.requires.answer_room_in_bounds

pub returns : goal.returns
returns c =
    rw (← to_z-of_z c.ranges.spare)
    (put_printed c.requires.table_in_buffers _ c.put_header-after_header.ensures c.put_row-after_levels.ensures c.put_runs.ensures)
