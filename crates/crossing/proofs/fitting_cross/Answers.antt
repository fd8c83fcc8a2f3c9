-- `crossing::fitting_cross` meets its contract: question 6, then that of 02, K6, and then question 8.
use mathlib.Core.Path.{◌≡◌, sym, ◌∙◌, ap}
use mathlib.Core.Bool.{true}
use mathlib.Core.List.{List}
use Prim.Native.Nat.{ℕ, ◌<◌}
use lib.Dec.{ltb}
use lib.ListN.{length, get_or, take}
use Rattle.counting.specs.Matrix.{matrix_of}
use Rattle.counting.specs.Table.{table_of}
use Rattle.order.specs.Grammar.{read_order}
use Rattle.places.specs.Places.{ingredient_at}
use Rattle.step_tables.specs.Lists.{all_of}
use Rattle.step_tables.specs.Sum.{rows_of}
use Rattle.ingredients.specs.Named.{table_in, some_table}
use Rattle.layout.specs.Bytes.{sheet_in}
use Rattle.sum_bytes.specs.Summing.{placed_matrix, matrix_place, matrix_at, matrices_at}
use Rattle.sum_bytes.specs.declared.MatrixPlace.{MatrixPlace}
use Rattle.sum_bytes.proofs.Serving.{place_stands}
use Rattle.sum_bytes.proofs.SumNames.{first_named}
use Rattle.sum_bytes.proofs.SumSheet.{sheet_stands}
use Rattle.sum_bytes.proofs.SumMeets.{adjoins_rows, adjoined_fits, rows_first}
use Rattle.crossing.proofs.Meets.{left_misfit, left_other_runs, left_uneven, left_even, meets_left}
use Rattle.crossing.proofs.fitting_cross.Goals as goal

-- M
module _ (list ds : List ℕ) (first : MatrixPlace) (first_is : first ≡ matrix_place (ingredient_at (read_order list) (get_or ds 0 0))) where
  rows_known : (matrix_at list (get_or ds 0 0)).rows ≡ first.rows
  unfolding matrix_at placed_matrix matrix_of
  rows_known = ap (λ (m : MatrixPlace). m.rows) (sym first_is)

  equal_rows : 0 < length ds → rows_of (matrices_at list ds) ≡ first.rows
  equal_rows some = rows_first _ _ some ∙ rows_known

  positive : 0 < length ds → all_of (λ d. ltb 0 (matrix_at list d).rows) ds ≡ true → 0 < first.rows
  positive some each = rw rows_known at (first_named list ds some each)

pub parts_fit-requires-clause-readable : goal.parts_fit-requires-clause-readable
parts_fit-requires-clause-readable c = (
  c.requires.ready.readable,
  positive _ _ _ c.matrix_named-first.ensures c.requires.ds_nonzero.0 c.requires.ds_nonzero.1,
  c.requires.legible.0,
)

pub parts_fit-requires-clause-all_below : goal.parts_fit-requires-clause-all_below
parts_fit-requires-clause-all_below c = (sheet_stands c.requires.ready).few

pub returns-then-not-parts_fit-clause-left : goal.returns-then-not-parts_fit-clause-left
unfolding sheet_in table_of
returns-then-not-parts_fit-clause-left c =
    let a = c.args in
    left_misfit a.ds.now (matrices_at a.list.now a.ds.now) (some_table a.list.now a.k) (table_in a.list.now a.h) (sheet_in a.table.now a.levels.now a.size) _
    (equal_rows _ _ _ c.matrix_named-first.ensures c.requires.ds_nonzero.0) a.number _ _ (sym c.if-not-parts_fit.true ∙ c.parts_fit.ensures.value)

pub returns-then-run_count-size-clause-left : goal.returns-then-run_count-size-clause-left
unfolding sheet_in table_of
returns-then-run_count-size-clause-left c =
    let a = c.args in
    left_other_runs a.ds.now (matrices_at a.list.now a.ds.now) (some_table a.list.now a.k) (table_in a.list.now a.h) (sheet_in a.table.now a.levels.now a.size) _
    (equal_rows _ _ _ c.matrix_named-first.ensures c.requires.ds_nonzero.0) a.number _ _ (sym c.if-not-parts_fit.false ∙ c.parts_fit.ensures.value)
    (λ e. c.if-run_count-size.true (c.run_count.ensures ∙ e))

pub sized_cross-requires-clause-entries_stand : goal.sized_cross-requires-clause-entries_stand
sized_cross-requires-clause-entries_stand c =
    let some = positive _ _ _ c.matrix_named-first.ensures c.requires.ds_nonzero.0 c.requires.ds_nonzero.1 in
    let stands = place_stands _ c.requires.ready.readable _ _ c.matrix_named-first.ensures some in
    ((c.parts_fit.ensures.serves c.if-not-parts_fit.false).stand, stands.rows_limits.1)

pub sized_cross-requires-clause-legible : goal.sized_cross-requires-clause-legible
sized_cross-requires-clause-legible c =
    let fit = sym c.parts_fit.ensures.value ∙ c.if-not-parts_fit.false in
    (c.requires.legible.0, adjoins_rows _ _ _ (adjoined_fits _ (matrices_at c.args.list.now c.args.ds.now) _ _ fit), c.requires.legible.1)

pub returns-in-Some-clause-left : goal.returns-in-Some-clause-left
unfolding sheet_in table_of
returns-in-Some-clause-left c =
    let a = c.args in
    left_uneven a.ds.now (matrices_at a.list.now a.ds.now) (some_table a.list.now a.k) (table_in a.list.now a.h) (sheet_in a.table.now a.levels.now a.size) _
    (equal_rows _ _ _ c.matrix_named-first.ensures c.requires.ds_nonzero.0) a.number _ _ (sym c.if-not-parts_fit.false ∙ c.parts_fit.ensures.value)
    (sym c.run_count.ensures ∙ c.if-run_count-size.false) (sym c.in-Some.is ∙ c.first_uneven.ensures)

pub returns-in-None-clause-left : goal.returns-in-None-clause-left
unfolding sheet_in table_of
returns-in-None-clause-left c =
    let a = c.args in
    let rows = equal_rows _ _ _ c.matrix_named-first.ensures c.requires.ds_nonzero.0 in
    let served = c.parts_fit.ensures.serves c.if-not-parts_fit.false in
    let made = c.sized_cross in
    left_even a.ds.now (matrices_at a.list.now a.ds.now) (some_table a.list.now a.k) (table_in a.list.now a.h) (sheet_in a.table.now a.levels.now a.size) _
    rows a.number _ _ (sym c.if-not-parts_fit.false ∙ c.parts_fit.ensures.value)
    (sym c.run_count.ensures ∙ c.if-run_count-size.false) (sym c.in-None.is ∙ c.first_uneven.ensures) made.result _ _
    (meets_left served rows a.k (table_in a.list.now a.h) a.table.now (take a.size.columns a.levels.now) a.size.runs a.number _ _ made.result _ _ made.ensures.left)
