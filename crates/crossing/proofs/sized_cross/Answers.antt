-- `crossing::sized_cross` meets its contract: question 8 asks for the sizes of the sheet that `build` and `put_beside` then build.
use mathlib.Core.Path.{◌≡◌, refl, sym, ◌∙◌, ap₂}
use mathlib.Core.Logic.{inl, inr, ⊎_elim}
use mathlib.Core.List.{List}
use Prim.Native.Nat.{ℕ, ◌+◌, ◌*◌, ◌≤◌}
use native.Mathlib.Nat.{le_trans, mul-le-mul}
use native.Mathlib.Omega.{arith}
use lib.ListN.{take, length}
use lib.Seq.{length-take-le}
use Rattle.counting.specs.Table.{Table, columns as columns_of}
use Rattle.step_tables.specs.Sheet.{SmallEnough}
use Rattle.ingredients.specs.Named.{table_in}
use Rattle.ingredients.specs.declared.named.NamedTable.{NamedTable}
use Rattle.layout.specs.declared.Size.{Size}
use Rattle.sum_bytes.specs.Summing.{summed_levels, built_sheet, next_sheet}
use Rattle.layout.proofs.Sheets.{ready_few, ready_runs}
use Rattle.sum_bytes.proofs.SumSheet.{sheet_stands, left_small, left_large, built_columns}
use Rattle.crossed_sheet.specs.Crossing.{crossed_sheet}
use Rattle.crossed_sheet.proofs.Crossed.{crossed_columns}
use Rattle.crossing.proofs.Meets.{between_holds, between_small, crossed_holds}
use Rattle.crossing.proofs.sized_cross.Goals as goal

module _ (list entries widths : List ℕ) (rows : ℕ) (k h : NamedTable) (size : Size) (table levels : List ℕ) {summed adjoined others : ℕ}
    (summed_is : summed ≡ length (summed_levels widths (take size.columns levels))) (adjoined_is : adjoined ≡ columns_of (table_in list k)) (others_are : others ≡ columns_of (table_in list h)) where
  -- the sheet that SUM would leave, and the one that the step would leave
  abbrev next : Table
  next = next_sheet list entries widths rows k size table levels

  abbrev whole : Table
  whole = crossed_sheet rows (table_in list h) next

  -- and how many columns they have
  many : summed + adjoined ≡ columns_of next
  many =
      built_columns list entries widths rows (table_in list k) table (take size.columns levels) size.runs summed_is adjoined_is

  all_columns : summed + adjoined + others ≡ columns_of whole
  all_columns = ap₂ ◌+◌ many others_are ∙ sym (crossed_columns rows (table_in list h) next)

  next_runs : size.runs * rows ≡ next.runs
  unfolding built_sheet
  next_runs = refl

  runs_known : size.runs * rows ≡ whole.runs
  unfolding built_sheet crossed_sheet
  runs_known = refl

  module _ (runs_few : size.runs * rows ≤ 512) (columns_few : summed + adjoined + others ≤ 128) where
    small : SmallEnough whole
    small = record { runs_most = rw (← runs_known) runs_few; columns_most = rw (← all_columns) columns_few }

    -- SUM's sheet has no more columns
    small_next : SmallEnough next
    small_next = record { runs_most = rw (← next_runs) runs_few; columns_most = rw (← many) (omega arith) }

pub overflow_mul-runs : goal.overflow_mul-runs
overflow_mul-runs c =
    omega (arith, mul-le-mul (ready_runs c.requires.ready) c.requires.entries_stand.1)

pub summed_columns-requires : goal.summed_columns-requires
summed_columns-requires c =
    let ready = c.requires.ready in
    (rw c.requires.entries_stand.0.widths_full (sheet_stands ready).few, rw (length-take-le _ _ (ready_few ready)) ready.columns_most)

pub returns-then-runs-gt512-clause-left : goal.returns-then-runs-gt512-clause-left
returns-then-runs-gt512-clause-left c =
    let a = c.args in
    left_large a.number _ a.table.now a.levels.now
    (runs_known a.list.now a.entries.now a.widths.now a.rows a.k a.h a.size a.table.now a.levels.now c.summed_columns.ensures.value c.column_count.ensures c.column_count-2.ensures)
    (all_columns a.list.now a.entries.now a.widths.now a.rows a.k a.h a.size a.table.now a.levels.now c.summed_columns.ensures.value c.column_count.ensures c.column_count-2.ensures)
    (⊎_elim (λ w. inl w) (λ w. inr w.1) c.then-runs-gt512.either)

pub build-requires-clause-small_enough : goal.build-requires-clause-small_enough
build-requires-clause-small_enough c =
    let a = c.args in
    small_next a.list.now a.entries.now a.widths.now a.rows a.k a.h a.size a.table.now a.levels.now c.summed_columns.ensures.value c.column_count.ensures c.column_count-2.ensures c.if-runs-gt512.false c.if-columns-gt128.false

pub put_beside-requires-clause-holds : goal.put_beside-requires-clause-holds
put_beside-requires-clause-holds c =
    let a = c.args in
    let counted = many a.list.now a.entries.now a.widths.now a.rows a.k a.h a.size a.table.now a.levels.now c.summed_columns.ensures.value c.column_count.ensures c.column_count-2.ensures in
    let runs = next_runs a.list.now a.entries.now a.widths.now a.rows a.k a.h a.size a.table.now a.levels.now c.summed_columns.ensures.value c.column_count.ensures c.column_count-2.ensures in
    let few : c.summed_columns.result + c.column_count.result ≤ 128 = omega arith in
    -- the level list has room for SUM's columns
    let room : c.summed_columns.result + c.column_count.result ≤ length c.build.new.levels =
    rw c.build.auto.levels (le_trans few c.requires.ready.long.levels_long)
    in
    (between_holds _ c.build.ensures.holds runs counted room, few)

pub put_beside-requires-clause-small_enough : goal.put_beside-requires-clause-small_enough
put_beside-requires-clause-small_enough c =
    let a = c.args in
    let counted = many a.list.now a.entries.now a.widths.now a.rows a.k a.h a.size a.table.now a.levels.now c.summed_columns.ensures.value c.column_count.ensures c.column_count-2.ensures in
    let runs = next_runs a.list.now a.entries.now a.widths.now a.rows a.k a.h a.size a.table.now a.levels.now c.summed_columns.ensures.value c.column_count.ensures c.column_count-2.ensures in
    let few : c.summed_columns.result + c.column_count.result ≤ 128 = omega arith in
    let room : c.summed_columns.result + c.column_count.result ≤ length c.build.new.levels =
    rw c.build.auto.levels (le_trans few c.requires.ready.long.levels_long)
    in
    between_small _ c.build.ensures.holds runs counted room a.rows (table_in a.list.now a.h)
    (small a.list.now a.entries.now a.widths.now a.rows a.k a.h a.size a.table.now a.levels.now c.summed_columns.ensures.value c.column_count.ensures c.column_count-2.ensures c.if-runs-gt512.false c.if-columns-gt128.false)

pub returns-clause-left : goal.returns-clause-left
returns-clause-left c =
    let a = c.args in
    let counted = many a.list.now a.entries.now a.widths.now a.rows a.k a.h a.size a.table.now a.levels.now c.summed_columns.ensures.value c.column_count.ensures c.column_count-2.ensures in
    let runs = next_runs a.list.now a.entries.now a.widths.now a.rows a.k a.h a.size a.table.now a.levels.now c.summed_columns.ensures.value c.column_count.ensures c.column_count-2.ensures in
    let few : c.summed_columns.result + c.column_count.result ≤ 128 = omega arith in
    let room : c.summed_columns.result + c.column_count.result ≤ length c.build.new.levels =
    rw c.build.auto.levels (le_trans few c.requires.ready.long.levels_long)
    in
    left_small a.number _ _ _
    (runs_known a.list.now a.entries.now a.widths.now a.rows a.k a.h a.size a.table.now a.levels.now c.summed_columns.ensures.value c.column_count.ensures c.column_count-2.ensures)
    (all_columns a.list.now a.entries.now a.widths.now a.rows a.k a.h a.size a.table.now a.levels.now c.summed_columns.ensures.value c.column_count.ensures c.column_count-2.ensures)
    c.if-runs-gt512.false c.if-columns-gt128.false
    (crossed_holds _ c.build.ensures.holds runs counted room a.rows (table_in a.list.now a.h) c.put_beside.ensures.holds_2)
    c.sheet_answer.ensures
