-- `list_verdicts::table_verdict` meets its contract: what is lent to the check are the level counts and the entries of the list.
-- Assumes nothing.
use Rattle.buffers.proofs.Puts.{put_part, put_front}
use Rattle.ingredients.specs.Named.{table_in}
use Rattle.question_4.proofs.Copies.{put_undone}
use Rattle.question_4.proofs.Checking.{levels_copyable, cells_copyable, table_checkable}
use Rattle.list_verdicts.proofs.table_verdict.Goals as goal

pub copy_part-requires : goal.copy_part-requires
copy_part-requires c =
    let pre = c.requires in
    levels_copyable pre.table_stands pre.room.numbers_long

pub copy_part-requires-2 : goal.copy_part-requires-2
copy_part-requires-2 c =
    let pre = c.requires in
    cells_copyable pre.table_stands pre.room.cells_long

pub slice_bounds-check_table-end-2 : goal.slice_bounds-check_table-end-2
slice_bounds-check_table-end-2 c = put_part c.copy_part-2.ensures

pub slice_bounds-check_table-end-4 : goal.slice_bounds-check_table-end-4
slice_bounds-check_table-end-4 c = put_part c.copy_part.ensures

pub check_table-verdict-requires : goal.check_table-verdict-requires
check_table-verdict-requires c =
    let cells = put_front c.copy_part-2.ensures in
    let levels = put_front c.copy_part.ensures in
    let pre = c.requires in
    rw (cells, levels) (table_checkable pre.table_stands)

pub returns-clause-value : goal.returns-clause-value
unfolding table_in
returns-clause-value c =
    rw (put_front c.copy_part-2.ensures, put_front c.copy_part.ensures) at c.check_table-verdict.ensures

pub returns-clause-cells_unchanged : goal.returns-clause-cells_unchanged
unfolding table_in
returns-clause-cells_unchanged c =
    let pre = c.requires in put_undone pre.room.cells_clear c.copy_part-2.ensures c.clear_front.ensures

pub returns-clause-numbers_unchanged : goal.returns-clause-numbers_unchanged
unfolding table_in
returns-clause-numbers_unchanged c =
    let pre = c.requires in put_undone pre.room.numbers_clear c.copy_part.ensures c.clear_front-2.ensures
