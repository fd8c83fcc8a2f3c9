-- `multiple_level` meets its contract: the level so far is that of the columns so far, which stays below 64.
-- Assumes nothing.
use mathlib.Core.Path.{◌≡◌, refl, sym, ◌∙◌, ap}
use mathlib.Core.List.{List}
use Prim.Native.Nat.{ℕ, ◌+◌, ◌*◌, ◌<◌}
use native.Mathlib.Omega.{arith}
use lib.ListN.{length, get_or}
use Rattle.finite.specs.Digits.{numeral}
use Rattle.finite.specs.Lists.{from}
use Rattle.galois.specs.Arithmetic.{field_product}
use Rattle.step_tables.specs.Field.{values}
use Rattle.generated_runs.specs.FieldPlaces.{FieldStands, ColumnsIn}
use Rattle.generated_runs.specs.LevelSums.{single}
use Rattle.generated_runs.specs.declared.GeneratorAt.{GeneratorAt}
use Rattle.generated_runs.proofs.FieldPlaces.{slice_of, slice_at, slice_inside, element_place, column_value, level_at, element_below, single_value, level_more, level_small}
use Rattle.generated_runs.proofs.multiple_level.Goals as goal

-- the element in the column in hand
module _ {list : List ℕ} {g : GeneratorAt} (known : FieldStands list g) {row digit : ℕ} (in_rows : (row < g.t) × (digit < g.s)) {column width : ℕ} (columns : ColumnsIn g column width) where
  abbrev elements : List ℕ
  elements = slice_of list (g.entries_at + row * g.width + column) width

  module _ {i : ℕ} (taken : i < length elements) where
    inside : i < width
    inside = slice_inside list _ width taken

    next_column : column + i < g.width
    next_column = omega (arith, inside, columns.within)

    element_is : get_or elements i 0 ≡ get_or list (element_place g row (column + i)) 0
    element_is = slice_at list _ width i inside ∙ ap (λ (place : ℕ). get_or list place 0) (omega arith)

    element_small : get_or elements i 0 < g.s
    element_small = rw element_is (element_below known row (column + i) in_rows.0 next_column)

    product_is : field_product g.s digit (get_or elements i 0) ≡ column_value list g (single g row digit) (column + i)
    product_is = rw element_is (sym (single_value known row digit (column + i) in_rows.0 in_rows.1 next_column))

    level_fits : level_at list g (single g row digit) column i * g.s + column_value list g (single g row digit) (column + i) < 64
    level_fits = level_small known (single g row digit) columns i inside

pub loop-entry-init : goal.loop-entry-init
unfolding numeral values from
loop-entry-init c = refl

pub overflow_cast-entry : goal.overflow_cast-entry
overflow_cast-entry c =
    let pre = c.requires in
    omega (arith, element_small pre.field_stands pre.row_lt_t pre.columns_in c.loop-entry-test.true, pre.field_stands.size_most)

pub product-requires : goal.product-requires
product-requires c =
    let pre = c.requires in
    record {
      size = pre.field_stands.size;
      first = pre.row_lt_t.1;
      second = element_small pre.field_stands pre.row_lt_t pre.columns_in c.loop-entry-test.true;
    }

pub overflow_mul-level : goal.overflow_mul-level
overflow_mul-level c =
    let pre = c.requires in
    rw c.loop-entry.invariant (omega (arith, level_fits pre.field_stands pre.row_lt_t pre.columns_in c.loop-entry-test.true))

pub overflow_add-level : goal.overflow_add-level
overflow_add-level c =
    let pre = c.requires in
    let taken = c.loop-entry-test.true in
    rw (c.loop-entry.invariant, c.product.ensures, product_is pre.field_stands pre.row_lt_t pre.columns_in taken)
    (omega (arith, level_fits pre.field_stands pre.row_lt_t pre.columns_in taken))

pub loop-entry-preserved : goal.loop-entry-preserved
loop-entry-preserved c =
    let pre = c.requires in
    let l = c.loop-entry in
    rw (l.invariant, c.product.ensures, product_is pre.field_stands pre.row_lt_t pre.columns_in c.loop-entry-test.true)
    (sym (level_more pre.field_stands _ _ l.entry-index))
