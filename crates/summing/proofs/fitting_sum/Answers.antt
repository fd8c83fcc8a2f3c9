-- `summing::fitting_sum` meets its contract: question 6, and then question 8.
use mathlib.Core.Path.{◌≡◌, sym, ◌∙◌, ap}
use Prim.Native.Nat.{◌<◌}
use lib.ListN.{get_or, take}
use lib.Seq.{length-take-le}
use Rattle.counting.specs.Matrix.{matrix_of}
use Rattle.counting.specs.Table.{table_of}
use Rattle.step_tables.specs.Sum.{rows_of}
use Rattle.ingredients.specs.Named.{some_table}
use Rattle.layout.specs.Bytes.{sheet_in}
use Rattle.sum_bytes.specs.Summing.{placed_matrix, matrix_at, matrices_at, Serves}
use Rattle.sum_bytes.specs.declared.MatrixPlace.{MatrixPlace}
use Rattle.layout.proofs.Sheets.{ready_few}
use Rattle.sum_bytes.proofs.Serving.{place_stands}
use Rattle.sum_bytes.proofs.SumSheet.{sheet_stands}
use Rattle.sum_bytes.proofs.SumMeets.{adjoins_rows, adjoined_fits, left_misfit, left_fits, meets_left, rows_first}
use Rattle.summing.proofs.fitting_sum.Goals as goal

pub slice_bounds-parts_fit-end-2 : goal.slice_bounds-parts_fit-end-2
slice_bounds-parts_fit-end-2 c = sym (length-take-le _ _ (ready_few c.requires.ready))

pub parts_fit-requires-clause-readable : goal.parts_fit-requires-clause-readable
unfolding matrix_at matrix_of placed_matrix
parts_fit-requires-clause-readable c =
    let rows_known : (matrix_at c.args.list.now (get_or c.args.ds.now 0 0)).rows ≡ c.matrix_named-first.result.rows = ap (λ (m : MatrixPlace). m.rows) (sym c.matrix_named-first.ensures) in
    let positive : 0 < c.matrix_named-first.result.rows = rw rows_known at c.requires.ds_nonzero.1 in
    (c.requires.ready.readable, positive, c.requires.legible.0)

pub parts_fit-requires-clause-all_below : goal.parts_fit-requires-clause-all_below
parts_fit-requires-clause-all_below c = (sheet_stands c.requires.ready).few

pub returns-then-not-parts_fit-clause-left : goal.returns-then-not-parts_fit-clause-left
unfolding sheet_in table_of matrix_at matrix_of placed_matrix
returns-then-not-parts_fit-clause-left c =
    let rows_known : (matrix_at c.args.list.now (get_or c.args.ds.now 0 0)).rows ≡ c.matrix_named-first.result.rows = ap (λ (m : MatrixPlace). m.rows) (sym c.matrix_named-first.ensures) in
    let matrices = matrices_at c.args.list.now c.args.ds.now in
    let equal_rows : rows_of matrices ≡ c.matrix_named-first.result.rows = rows_first _ _ c.requires.ds_nonzero.0 ∙ rows_known in
    left_misfit matrices (some_table c.args.list.now c.args.k) (sheet_in c.args.table.now c.args.levels.now c.args.size) _ equal_rows c.args.number _ _
    (sym c.if-not-parts_fit.true ∙ c.parts_fit.ensures.value)

pub sized_sum-requires-clause-entries_stand : goal.sized_sum-requires-clause-entries_stand
unfolding matrix_at matrix_of placed_matrix
sized_sum-requires-clause-entries_stand c =
    let rows_known : (matrix_at c.args.list.now (get_or c.args.ds.now 0 0)).rows ≡ c.matrix_named-first.result.rows = ap (λ (m : MatrixPlace). m.rows) (sym c.matrix_named-first.ensures) in
    let positive : 0 < c.matrix_named-first.result.rows = rw rows_known at c.requires.ds_nonzero.1 in
    let stands = place_stands _ c.requires.ready.readable _ _ c.matrix_named-first.ensures positive in
    let served : Serves c.args.list.now (matrices_at c.args.list.now c.args.ds.now) c.matrix_named-first.result.rows c.parts_fit.new.entries c.parts_fit.new.widths = c.parts_fit.ensures.serves c.if-not-parts_fit.false in
    (served.stand, stands.rows_limits.1)

pub sized_sum-requires-clause-legible : goal.sized_sum-requires-clause-legible
sized_sum-requires-clause-legible c =
    let fit = sym c.parts_fit.ensures.value ∙ c.if-not-parts_fit.false in
    (c.requires.legible.0, adjoins_rows _ _ _ (adjoined_fits _ (matrices_at c.args.list.now c.args.ds.now) _ _ fit), c.requires.legible.1)

pub returns-clause-left : goal.returns-clause-left
unfolding sheet_in table_of matrix_at matrix_of placed_matrix
returns-clause-left c =
    let rows_known : (matrix_at c.args.list.now (get_or c.args.ds.now 0 0)).rows ≡ c.matrix_named-first.result.rows = ap (λ (m : MatrixPlace). m.rows) (sym c.matrix_named-first.ensures) in
    let matrices = matrices_at c.args.list.now c.args.ds.now in
    let equal_rows : rows_of matrices ≡ c.matrix_named-first.result.rows = rows_first _ _ c.requires.ds_nonzero.0 ∙ rows_known in
    let served : Serves c.args.list.now (matrices_at c.args.list.now c.args.ds.now) c.matrix_named-first.result.rows c.parts_fit.new.entries c.parts_fit.new.widths = c.parts_fit.ensures.serves c.if-not-parts_fit.false in
    let a = c.args in
    let made = c.sized_sum in
    left_fits matrices (some_table c.args.list.now c.args.k) (sheet_in c.args.table.now c.args.levels.now c.args.size) _ equal_rows a.number _ _ made.result _ _
    (sym c.if-not-parts_fit.false ∙ c.parts_fit.ensures.value)
    (meets_left served equal_rows a.k a.table.now (take a.size.columns a.levels.now) a.size.runs a.number _ _ made.result _ _ made.ensures.left)
