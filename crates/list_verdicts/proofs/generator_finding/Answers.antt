-- `list_verdicts::generator_finding` meets its contract: what is lent to the check are the widths and the entries of the list.
-- Assumes nothing.
use Rattle.buffers.proofs.Puts.{put_part, put_front}
use Rattle.question_4.proofs.Copies.{put_undone}
use Rattle.question_4.proofs.Checking.{widths_copyable, generator_copyable, generator_checkable}
use Rattle.list_verdicts.proofs.generator_finding.Goals as goal

pub copy_part-requires : goal.copy_part-requires
copy_part-requires c =
    let pre = c.requires in
    widths_copyable pre.generator_stands pre.room.numbers_long

pub copy_part-requires-2 : goal.copy_part-requires-2
copy_part-requires-2 c =
    let pre = c.requires in
    generator_copyable pre.generator_stands pre.room.cells_long

pub slice_bounds-check_generator-end-2 : goal.slice_bounds-check_generator-end-2
slice_bounds-check_generator-end-2 c = put_part c.copy_part-2.ensures

pub slice_bounds-check_generator-end-4 : goal.slice_bounds-check_generator-end-4
slice_bounds-check_generator-end-4 c = put_part c.copy_part.ensures

pub check_generator-finding-requires : goal.check_generator-finding-requires
check_generator-finding-requires c =
    let cells = put_front c.copy_part-2.ensures in
    let widths = put_front c.copy_part.ensures in
    let pre = c.requires in
    rw (cells, widths) (generator_checkable pre.generator_stands)

pub returns-clause-value : goal.returns-clause-value
returns-clause-value c =
    rw (put_front c.copy_part-2.ensures, put_front c.copy_part.ensures) at c.check_generator-finding.ensures

pub returns-clause-cells_unchanged : goal.returns-clause-cells_unchanged
returns-clause-cells_unchanged c =
    let pre = c.requires in put_undone pre.room.cells_clear c.copy_part-2.ensures c.clear_front.ensures

pub returns-clause-numbers_unchanged : goal.returns-clause-numbers_unchanged
returns-clause-numbers_unchanged c =
    let pre = c.requires in put_undone pre.room.numbers_clear c.copy_part.ensures c.clear_front-2.ensures
