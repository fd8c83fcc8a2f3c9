-- Questions 6 to 8 of CROSS, with that of 02, K6: from the single answers, and from the sheet that is built to the definition's.
-- Assumes nothing.
use mathlib.Core.Path.{◌≡◌, refl, sym, ◌∙◌, ap, subst}
use mathlib.Core.Bool.{true, false}
use mathlib.Core.List.{List}
use mathlib.Core.Option.{Option, none, some, map}
use Prim.Native.Nat.{ℕ, ◌+◌, ◌≤◌}
use native.Mathlib.Omega.{arith}
use borrow.Author.Tests.{eq-eqb, ne_eqb}
use lib.ListN.{length, get_or}
use Rattle.std.specs.Prelude.{Some, None}
use Rattle.counting.specs.Matrix.{Matrix}
use Rattle.counting.specs.Table.{Table, columns, table_of}
use Rattle.step_tables.specs.Sheet.{Agree, SmallEnough}
use Rattle.step_tables.specs.Sum.{level_sum, rows_of, adjoined_table, sum_step}
use Rattle.step_tables.specs.Cross.{ValueFault, serving_fault, cross_fits, cross_step}
use Rattle.step_tables.proofs.Agreement.{agree_sym, agree_trans, agree_columns}
use Rattle.sheets.specs.Steps.{unless, cross, fits, value_refusal, uneven_matrix, wrong_member, applied, sized, after_sums, operate}
use Rattle.sheets.specs.declared.answer.Refusal.{Refusal}
use Rattle.sheets.specs.declared.answer.Refusal.TheVariants.{PartsDoNotFit, UnevenValue}
use Rattle.sheets.specs.declared.answer.Answer.{Answer}
use Rattle.sheets.specs.declared.answer.Answer.TheVariants.{Refused}
use Rattle.ingredients.specs.Named.{table_in, some_table}
use Rattle.ingredients.specs.declared.named.NamedTable.{NamedTable}
use Rattle.layout.specs.Bytes.{Holds, sheet_in}
use Rattle.layout.specs.Step.{Left}
use Rattle.layout.specs.declared.Size.{Size}
use Rattle.layout.proofs.Sheets.{bytes_agree, holds_agrees, runs_agree, agree_holds}
use Rattle.sum_bytes.specs.Summing.{parts_fit, Serves, built_sheet}
use Rattle.sum_bytes.proofs.SumMeets.{same_test, adjoined_same, meets_runs, meets_levels, meets_size}
use Rattle.sum_bytes.proofs.SumSheet.{left_same}
use Rattle.matrix_balance.specs.Balance.{balance_of}
use Rattle.matrix_balance.specs.declared.Unevenness.{Unevenness}
use Rattle.crossed_sheet.specs.Crossing.{crossed_sheet}
use Rattle.crossed_sheet.proofs.Crossed.{crossed_agrees, cross_meets}

-- ---- what the search answers

uneven_found : (n : ℕ) (ds : List ℕ) (x : Option ValueFault) {u : Unevenness} → Some u ≡ balance_of ds x
    → map (value_refusal n ds) x ≡ some (UnevenValue n u.ingredient u.column u.value)
unfolding balance_of value_refusal
uneven_found n ds none e = absurd (let z : ◌≡◌ {A = ℕ} 0 1 = cc in omega arith)
uneven_found n ds (some fault) {u} e =
    let same : u ≡ record { ingredient = get_or ds fault.place 0; column = fault.column + 1; value = fault.value } = cc in
    sym (ap (λ (w : Unevenness). some (UnevenValue n w.ingredient w.column w.value)) same)

even_found : (n : ℕ) (ds : List ℕ) (x : Option ValueFault) → None ≡ balance_of ds x → ◌≡◌ {A = Option Refusal} (map (value_refusal n ds) x) none
unfolding balance_of
even_found n ds none e = refl
even_found n ds (some fault) e = absurd (let z : ◌≡◌ {A = ℕ} 0 1 = cc in omega arith)

-- ---- question 6, and that of 02, K6

module _ (ds : List ℕ) (Ds : List Matrix) (k : Option Table) (H S : Table) (rows : ℕ) (e : rows_of Ds ≡ rows) (n : ℕ) (table levels : List ℕ) where
  -- what SUM is asked fits not
  pub left_misfit : false ≡ parts_fit rows Ds (adjoined_table rows k) S.levels
      → Left (operate n S (cross ds Ds k H)) table levels (Refused (PartsDoNotFit n)) table levels
  unfolding operate fits cross_fits Left
  left_misfit fails = rw (e, same_test Ds k S rows e n table levels ∙ sym fails) (refl, refl, refl)

  module _ (holds : true ≡ parts_fit rows Ds (adjoined_table rows k) S.levels) where
    -- h has other runs than the sheet
    pub left_other_runs : (H.runs ≡ S.runs → ⊥) → Left (operate n S (cross ds Ds k H)) table levels (Refused (PartsDoNotFit n)) table levels
    unfolding operate fits cross_fits Left
    left_other_runs differ =
        rw (e, same_test Ds k S rows e n table levels ∙ sym holds, ne_eqb H.runs S.runs differ) (refl, refl, refl)

    module _ (as_many : H.runs ≡ S.runs) where
      -- a matrix is uneven
      pub left_uneven : {u : Unevenness} → Some u ≡ balance_of ds (serving_fault Ds S.levels)
          → Left (operate n S (cross ds Ds k H)) table levels (Refused (UnevenValue n u.ingredient u.column u.value)) table levels
      unfolding operate fits cross_fits unless uneven_matrix value_refusal Left
      left_uneven found =
          rw (
            e,
            same_test Ds k S rows e n table levels ∙ sym holds,
            eq-eqb H.runs S.runs as_many,
            uneven_found n ds (serving_fault Ds S.levels) found,
          )
          (refl, refl, refl)

      -- none is
      pub left_even : None ≡ balance_of ds (serving_fault Ds S.levels) → (answer : Answer) (table' levels' : List ℕ)
          → Left (sized n (cross_step level_sum Ds (adjoined_table rows k) H S)) table levels answer table' levels'
          → Left (operate n S (cross ds Ds k H)) table levels answer table' levels'
      unfolding operate fits cross_fits unless uneven_matrix applied wrong_member after_sums
      left_even found answer table' levels' left =
          rw (
            e,
            same_test Ds k S rows e n table levels ∙ sym holds,
            eq-eqb H.runs S.runs as_many,
            even_found n ds (serving_fault Ds S.levels) found,
          )
          left

-- ---- the sheet that is built and the definition's are left alike

pub meets_left : {list : List ℕ} {Ds : List Matrix} {rows : ℕ} {entries widths : List ℕ} → Serves list Ds rows entries widths → rows_of Ds ≡ rows
    → (t : NamedTable) (H : Table) (cells counts : List ℕ) (runs n : ℕ) (table levels : List ℕ) (answer : Answer) (table' levels' : List ℕ)
    → Left (sized n (crossed_sheet rows H (built_sheet list entries widths rows (table_in list t) cells counts runs))) table levels answer table' levels'
    → Left (sized n (cross_step level_sum Ds (adjoined_table rows (some_table list t)) H (table_of cells counts runs))) table levels answer table' levels'
meets_left {list} {Ds} {rows} {entries} {widths} w e t H cells counts runs n table levels answer table' levels' left =
    let K = adjoined_table rows (some_table list t) in
    let S = table_of cells counts runs in
    let summed : Agree (built_sheet list entries widths rows K cells counts runs) (sum_step level_sum Ds K S) =
    bytes_agree (sym (meets_size w K cells counts runs e)) (sym (meets_levels w K cells counts runs e)) (sym (meets_runs w K cells counts runs e))
    in
    let alike : Agree (crossed_sheet rows H (built_sheet list entries widths rows K cells counts runs)) (cross_step level_sum Ds K H S) =
    agree_trans (crossed_agrees rows H summed) (subst (λ M. Agree (crossed_sheet M H (sum_step level_sum Ds K S)) (cross_step level_sum Ds K H S)) e (agree_sym (cross_meets level_sum Ds K H S)))
    in
    left_same n _ _ alike.same_runs alike.same_levels (runs_agree alike) table levels answer table' levels'
    (rw (adjoined_same list entries widths rows t cells counts runs) left)

-- ---- the sheet in between

-- SUM's sheet lies in the buffers, and h's columns come after its own
module _ {A : Table} {table levels : List ℕ} (size : Size) (holds : Holds A table levels)
    (runs_are : size.runs ≡ A.runs) (columns_are : size.columns ≡ columns A) (few : size.columns ≤ length levels) where
  between : Agree A (sheet_in table levels size)
  between = holds_agrees A table levels size holds runs_are columns_are few

  pub between_holds : Holds (sheet_in table levels size) table levels
  between_holds = agree_holds between holds

  module _ (rows : ℕ) (H : Table) where
    pub between_small : SmallEnough (crossed_sheet rows H A) → SmallEnough (crossed_sheet rows H (sheet_in table levels size))
    between_small small =
        let alike = crossed_agrees rows H between in
        record { runs_most = rw (← alike.same_runs) small.runs_most; columns_most = rw (← agree_columns alike) small.columns_most }

    pub crossed_holds : {table' levels' : List ℕ} → Holds (crossed_sheet rows H (sheet_in table levels size)) table' levels'
        → Holds (crossed_sheet rows H A) table' levels'
    crossed_holds holds' = agree_holds (agree_sym (crossed_agrees rows H between)) holds'
