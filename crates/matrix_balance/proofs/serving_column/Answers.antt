-- `serving_column` meets its contract: a matrix that serves none of the level counts is not asked, and any other is searched.
-- Assumes nothing.
use mathlib.Core.Path.{◌∙◌}
use Rattle.counting.specs.Matrix.{matrix_of}
use Rattle.sum_bytes.specs.Summing.{placed_matrix}
use Rattle.matrix_balance.proofs.Columns.{not_asked, asked}
use Rattle.matrix_balance.proofs.serving_column.Goals as goal

pub returns-then-not-serves-clause-by_index : goal.returns-then-not-serves-clause-by_index
unfolding placed_matrix matrix_of
returns-then-not-serves-clause-by_index c =
    let D = placed_matrix c.args.list.now c.args.m in λ q. not_asked D q _ (c.if-not-serves.true) c.serves.ensures

pub returns-clause-by_index : goal.returns-clause-by_index
unfolding placed_matrix matrix_of
returns-clause-by_index c =
    let D = placed_matrix c.args.list.now c.args.m in
    let searched = c.uneven_column.ensures in λ q. searched.by_index q ∙ asked D q _ (c.if-not-serves.false) c.serves.ensures
