-- `list_verdicts::matrix_finding` meets its contract: what is lent to the check are the entries of the list.
-- Assumes nothing.
use Rattle.buffers.proofs.Puts.{put_part, put_front}
use Rattle.question_4.proofs.Copies.{put_undone}
use Rattle.question_4.proofs.Checking.{matrix_copyable, matrix_checkable}
use Rattle.list_verdicts.proofs.matrix_finding.Goals as goal

pub copy_part-requires : goal.copy_part-requires
copy_part-requires c =
    let pre = c.requires in
    matrix_copyable pre.matrix_stands pre.in_bounds

pub slice_bounds-check_matrix-end-2 : goal.slice_bounds-check_matrix-end-2
slice_bounds-check_matrix-end-2 c = put_part c.copy_part.ensures

pub check_matrix-finding-requires : goal.check_matrix-finding-requires
check_matrix-finding-requires c =
    let pre = c.requires in
    rw (put_front c.copy_part.ensures) (matrix_checkable pre.matrix_stands)

pub returns-clause-value : goal.returns-clause-value
returns-clause-value c =
    rw (put_front c.copy_part.ensures) at c.check_matrix-finding.ensures

pub returns-clause-cells_unchanged : goal.returns-clause-cells_unchanged
returns-clause-cells_unchanged c =
    let pre = c.requires in put_undone pre.cells_value c.copy_part.ensures c.clear_front.ensures
