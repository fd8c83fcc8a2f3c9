-- `uneven_column` meets its contract: the columns before the one in hand are even, and the counters are zero between two columns.
-- Assumes nothing.
use mathlib.Core.Path.{◌∙◌}
use native.Mathlib.Nat.{lt_of_lt_of_le}
use borrow.Author.Count.{below_more}
use Rattle.counting.specs.Matrix.{matrix_of}
use Rattle.sum_bytes.specs.Summing.{placed_matrix}
use Rattle.matrix_balance.proofs.Columns.{column_even, column_uneven, matrix_even, matrix_uneven}
use Rattle.matrix_balance.proofs.uneven_column.Goals as goal

pub returns-in-Some-clause-by_index : goal.returns-in-Some-clause-by_index
unfolding placed_matrix matrix_of
returns-in-Some-clause-by_index c =
    let l = c.loop-column in
    let D = placed_matrix c.args.list.now c.args.m in
    let found = c.column_deviation.ensures.value in λ q. matrix_uneven D q l.column c.loop-column-test.true (l.invariant.2 q) (column_uneven D l.column q c.in-Some.is found)

pub loop-column-preserved : goal.loop-column-preserved
unfolding placed_matrix matrix_of
loop-column-preserved c =
    let l = c.loop-column in
    let D = placed_matrix c.args.list.now c.args.m in
    let called = c.column_deviation in (
      called.auto.counters ∙ l.invariant.0,
      called.ensures.cleared_2 c.in_default.is,
      λ q. below_more _ l.column (l.invariant.2 q) (column_even D l.column q c.in_default.is called.ensures.value),
    )

pub returns-clause-by_index : goal.returns-clause-by_index
unfolding placed_matrix matrix_of
returns-clause-by_index c =
    let l = c.loop-column in λ q. matrix_even (placed_matrix c.args.list.now c.args.m) q (λ k h. l.invariant.2 q k (lt_of_lt_of_le h c.loop-column-test.false))
