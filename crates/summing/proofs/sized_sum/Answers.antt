-- `summing::sized_sum` meets its contract: question 8 asks for the sizes of the sheet that `build` then builds.
use mathlib.Core.Path.{◌≡◌, refl, sym}
use mathlib.Core.Logic.{inl, inr, ⊎_elim}
use Prim.Native.Nat.{◌+◌, ◌*◌}
use native.Mathlib.Nat.{mul-le-mul}
use native.Mathlib.Omega.{arith}
use lib.ListN.{take}
use lib.Seq.{length-take-le}
use Rattle.counting.specs.Table.{columns as columns_of}
use Rattle.step_tables.specs.Sheet.{SmallEnough}
use Rattle.ingredients.specs.Named.{table_in}
use Rattle.sum_bytes.specs.Summing.{built_sheet, next_sheet}
use Rattle.layout.proofs.Sheets.{ready_few, ready_runs, held_limits}
use Rattle.sum_bytes.proofs.SumSheet.{sheet_stands, left_small, left_large, built_columns}
use Rattle.summing.proofs.sized_sum.Goals as goal

pub overflow_mul-runs : goal.overflow_mul-runs
overflow_mul-runs c =
    omega (arith, mul-le-mul (ready_runs c.requires.ready) c.requires.entries_stand.1)

pub slice_bounds-summed_columns-end-2 : goal.slice_bounds-summed_columns-end-2
slice_bounds-summed_columns-end-2 c =
    sym (length-take-le _ _ (ready_few c.requires.ready))

pub summed_columns-requires : goal.summed_columns-requires
summed_columns-requires c =
    let ready = c.requires.ready in
    (rw c.requires.entries_stand.0.widths_full (sheet_stands ready).few, rw (length-take-le _ _ (ready_few ready)) ready.columns_most)

pub column_count-requires : goal.column_count-requires
column_count-requires c = c.requires.legible.0

pub overflow_add-columns : goal.overflow_add-columns
overflow_add-columns c =
    let ready = c.requires.ready in
    omega (arith, c.summed_columns.ensures.upper_bound, length-take-le c.args.size.columns c.args.levels.now (ready_few ready), ready.columns_most, c.column_count.ensures, c.requires.legible.2)

pub returns-then-runs-gt512-clause-left : goal.returns-then-runs-gt512-clause-left
unfolding built_sheet
returns-then-runs-gt512-clause-left c =
    let next = next_sheet c.args.list.now c.args.entries.now c.args.widths.now c.args.rows c.args.k c.args.size c.args.table.now c.args.levels.now in
    let many : c.summed_columns.result + c.column_count.result ≡ columns_of next =
    let a = c.args in
    built_columns a.list.now a.entries.now a.widths.now a.rows (table_in a.list.now a.k) a.table.now (take a.size.columns a.levels.now) a.size.runs c.summed_columns.ensures.value c.column_count.ensures
    in
    let runs_known : c.args.size.runs * c.args.rows ≡ next.runs = refl in
    left_large c.args.number next c.args.table.now c.args.levels.now runs_known many
    (⊎_elim inl (λ w. inr w.1) c.then-runs-gt512.either)

pub build-requires-clause-small_enough : goal.build-requires-clause-small_enough
unfolding built_sheet
build-requires-clause-small_enough c =
    let next = next_sheet c.args.list.now c.args.entries.now c.args.widths.now c.args.rows c.args.k c.args.size c.args.table.now c.args.levels.now in
    let many : c.summed_columns.result + c.column_count.result ≡ columns_of next =
    let a = c.args in
    built_columns a.list.now a.entries.now a.widths.now a.rows (table_in a.list.now a.k) a.table.now (take a.size.columns a.levels.now) a.size.runs c.summed_columns.ensures.value c.column_count.ensures
    in
    let small : SmallEnough next = record { runs_most = c.if-runs-gt512.false; columns_most = rw (← many) c.if-columns-gt128.false } in
    small

pub sheet_answer-requires : goal.sheet_answer-requires
unfolding built_sheet
sheet_answer-requires c =
    let next = next_sheet c.args.list.now c.args.entries.now c.args.widths.now c.args.rows c.args.k c.args.size c.args.table.now c.args.levels.now in
    let many : c.summed_columns.result + c.column_count.result ≡ columns_of next =
    let a = c.args in
    built_columns a.list.now a.entries.now a.widths.now a.rows (table_in a.list.now a.k) a.table.now (take a.size.columns a.levels.now) a.size.runs c.summed_columns.ensures.value c.column_count.ensures
    in
    let runs_known : c.args.size.runs * c.args.rows ≡ next.runs = refl in
    let small : SmallEnough next = record { runs_most = c.if-runs-gt512.false; columns_most = rw (← many) c.if-columns-gt128.false } in
    held_limits c.build.ensures.holds runs_known many small

pub returns-clause-left : goal.returns-clause-left
unfolding built_sheet
returns-clause-left c =
    let next = next_sheet c.args.list.now c.args.entries.now c.args.widths.now c.args.rows c.args.k c.args.size c.args.table.now c.args.levels.now in
    let many : c.summed_columns.result + c.column_count.result ≡ columns_of next =
    let a = c.args in
    built_columns a.list.now a.entries.now a.widths.now a.rows (table_in a.list.now a.k) a.table.now (take a.size.columns a.levels.now) a.size.runs c.summed_columns.ensures.value c.column_count.ensures
    in
    let runs_known : c.args.size.runs * c.args.rows ≡ next.runs = refl in
    left_small c.args.number next _ _ runs_known many c.if-runs-gt512.false c.if-columns-gt128.false c.build.ensures.holds c.sheet_answer.ensures
