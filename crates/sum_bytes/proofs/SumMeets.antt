-- The sheet that SUM builds from the arrays is the sheet of the definition, where the arrays have the matrices that serve each level count.
-- Assumes nothing.
use mathlib.Core.Path.{◌≡◌, refl, sym, ◌∙◌, ap, ap₂, fun_ext}
use mathlib.Core.Bool.{Bool, true, false, ◌&&◌, and-false}
use mathlib.Core.List.{List, [], ◌∷◌, ◌++◌, map, flat_map, map-map, map-append}
use mathlib.Core.Option.{Option}
use Prim.Native.Nat.{ℕ, zero, suc, ◌+◌, ◌*◌, ◌/◌, ◌%◌, ◌≤◌, ◌<◌}
use native.Mathlib.Omega.{arith}
use borrow.Author.Tests.{eq-eqb, eqb-true}
use lib.Arith.{digits_lt}
use lib.Dec.{eqb, ltb}
use lib.ListN.{length, get_or, take, drop, replicate}
use lib.Seq.{get_or-take, get_or-drop}
use Rattle.finite.specs.Lists.{from}
use Rattle.finite.proofs.Fits.{run_end}
use Rattle.galois.specs.Arithmetic.{member}
use Rattle.counting.specs.Matrix.{Matrix, matrix_of}
use Rattle.counting.specs.Table.{Table, columns, table_of}
use Rattle.step_tables.specs.Lists.{all_of}
use Rattle.step_tables.specs.Sheet.{from_sources}
use Rattle.step_tables.specs.Sum.{level_sum, modulus_of, rows_of, adjoined_table, SumSource, adjoined, summed_with, sum_place, sum_sources, sum_levels, sum_entry, sum_value, sum_step, sum_fits}
use Rattle.sheets.specs.Steps.{unless, sum, fits, uneven_matrix, wrong_member, applied, sized, after_sums, operate}
use Rattle.sheets.specs.declared.answer.Refusal.TheVariants.{PartsDoNotFit}
use Rattle.sheets.specs.declared.answer.Answer.{Answer}
use Rattle.sheets.specs.declared.answer.Answer.TheVariants.{Refused}
use Rattle.step_tables.proofs.Lists.{map_get_d}
use Rattle.ingredients.specs.Named.{table_in, some_table}
use Rattle.ingredients.specs.declared.named.NamedTable.{NamedTable}
use Rattle.ingredients.specs.declared.named.NamedTable.TheVariants.{Own, House, Missing}
use Rattle.ingredients.proofs.Parts.{part_length, part_at}
use Rattle.layout.specs.Bytes.{run_of, runs_of}
use Rattle.layout.specs.Step.{Left}
use Rattle.sum_bytes.specs.Summing.{matrix_at, matrices_at, fit_together, parts_fit, matrix_from, Serves, is_missing, Adjoins, summed_levels, served_row, summed_cells, summed_run, built_run, built_sheet}
use Rattle.layout.proofs.Bytes.{map_below, flat_map_same, runs_sources}
use Rattle.layout.proofs.Rows.{map_flat_map}
use Rattle.sum_bytes.proofs.Sums.{row_below}
use Rattle.sum_bytes.proofs.Serving.{untrue, serves_member}
use Rattle.sum_bytes.proofs.SumSheet.{flat_map_places, built_runs, left_same}

-- ---- lists

const_from : (s a n : ℕ) → map (λ (c : ℕ). s) (from a n) ≡ replicate n s
unfolding from
const_from s a zero = refl
const_from s a (suc n) = ap (λ (xs : List ℕ). s ∷ xs) (const_from s (suc a) n)

-- ---- the columns in the place of one sheet column

-- a row of a matrix that stands in the list
row_entries : (list : List ℕ) (rows start width y : ℕ) → y < rows → start + rows * width ≤ length list
    → map (λ c. get_or (take (rows * width) (drop start list)) (y * width + c) 0) (from 0 width) ≡ take width (drop (start + y * width) list)
row_entries list rows start width y h within =
    let in_list : start + y * width + width ≤ length list = omega (arith, run_end y width {runs = rows} {n = rows * width} h (omega arith)) in
    let row = take width (drop (start + y * width) list) in
    map_below _ (λ c. get_or row c 0) width (λ c k.
    part_at list start (rows * width) within (y * width + c) (digits_lt h k)
    ∙ ap (λ (q : ℕ). get_or list q 0) (let same : start + (y * width + c) ≡ start + y * width + c = omega arith in same)
    ∙ sym (part_at list (start + y * width) width in_list c k))
    ∙ ap (λ (n : ℕ). map (λ c. get_or row c 0) (from 0 n)) (sym (part_length list (start + y * width) width in_list))
    ∙ map_get_d row 0

module _ (list : List ℕ) (rows start s : ℕ) (K S : Table) (j : ℕ) where
  place_levels : (width : ℕ) → map (sum_levels K) (summed_with j (matrix_from list rows start width s)) ≡ replicate width s
  unfolding summed_with matrix_from matrix_of sum_levels
  place_levels zero = refl
  place_levels (suc width) = map-map (sum_levels K) _ (from 0 (suc width)) ∙ const_from s 0 (suc width)

  place_entries : (i y : ℕ) → y < rows → (width : ℕ) → start + rows * width ≤ length list
      → map (sum_entry level_sum K S i y) (summed_with j (matrix_from list rows start width s)) ≡ map (level_sum s (S.cell i j)) (take width (drop (start + y * width) list))
  unfolding summed_with matrix_from matrix_of sum_entry
  place_entries i y h zero within = refl
  place_entries i y h (suc width) within =
      map-map (sum_entry level_sum K S i y) _ (from 0 (suc width))
      ∙ sym (map-map (level_sum s (S.cell i j)) _ (from 0 (suc width)))
      ∙ ap (map (level_sum s (S.cell i j))) (row_entries list rows start (suc width) y h within)

-- ---- all columns

module _ {list : List ℕ} {Ds : List Matrix} {rows : ℕ} {entries widths : List ℕ} (w : Serves list Ds rows entries widths)
    (K : Table) (table levels : List ℕ) (runs : ℕ) where
  sources_levels : map (sum_levels K) (sum_sources Ds K (table_of table levels runs)) ≡ summed_levels widths levels ++ K.levels
  unfolding sum_sources sum_place summed_levels sum_levels table_of
  sources_levels =
      let S : Table = table_of table levels runs in
      map-append (sum_levels K) (flat_map (sum_place Ds S) (from 0 (length levels))) (map adjoined (from 0 (columns K)))
      ∙ ap₂ ◌++◌
      (map_flat_map (sum_levels K) (sum_place Ds S) (from 0 (length levels))
      ∙ flat_map_same _ _ (length levels) (λ j h.
      ap (λ o. map (sum_levels K) (summed_with j o)) (w.serves (get_or levels j 0))
      ∙ place_levels list rows (get_or entries (get_or levels j 0) 0) (get_or levels j 0) K S j (get_or widths (get_or levels j 0) 0))
      ∙ sym (flat_map_places (λ s. replicate (get_or widths s 0) s) levels))
      (map-map (sum_levels K) adjoined (from 0 (columns K)) ∙ map_get_d K.levels 0)

  sources_entries : (i y : ℕ) → y < rows
      → map (sum_entry level_sum K (table_of table levels runs) i y) (sum_sources Ds K (table_of table levels runs))
      ≡ summed_run list entries widths y levels (take (length levels) (drop (i * length levels) table)) ++ run_of K y
  unfolding sum_sources sum_place summed_run summed_cells served_row run_of sum_entry table_of
  sources_entries i y h =
      let S : Table = table_of table levels runs in
      let f : SumSource → ℕ = sum_entry level_sum K S i y in
      let cells : List ℕ = take (length levels) (drop (i * length levels) table) in
      map-append f (flat_map (sum_place Ds S) (from 0 (length levels))) (map adjoined (from 0 (columns K)))
      ∙ ap₂ ◌++◌
      (map_flat_map f (sum_place Ds S) (from 0 (length levels))
      ∙ flat_map_same _ (summed_cells list entries widths y levels cells) (length levels) (λ j k.
      let s = get_or levels j 0 in
      ap (λ o. map f (summed_with j o)) (w.serves s)
      ∙ place_entries list rows (get_or entries s 0) s K S j i y h (get_or widths s 0) (w.stand.within s)
      ∙ ap (λ (x : ℕ). map (level_sum s x) (served_row list entries widths y s))
      (sym (get_or-take (length levels) (drop (i * length levels) table) j 0 k ∙ get_or-drop (i * length levels) table j 0))))
      (map-map f adjoined (from 0 (columns K)))

  -- the sheet of the definition has the runs and the level counts of the sheet that is built
  module _ (equal : rows_of Ds ≡ rows) where
    pub meets_runs : runs_of (sum_step level_sum Ds K (table_of table levels runs)) ≡ runs_of (built_sheet list entries widths rows K table levels runs)
    unfolding sum_step sum_value built_run table_of
    meets_runs =
        let S : Table = table_of table levels runs in
        runs_sources (runs * rows_of Ds) (sum_levels K) (sum_value level_sum (rows_of Ds) K S) (sum_sources Ds K S)
        ∙ ap (λ (M : ℕ). flat_map (λ r. map (sum_entry level_sum K S (r / M) (r % M)) (sum_sources Ds K S)) (from 0 (runs * M))) equal
        ∙ flat_map_same _ (built_run list entries widths rows K table levels) (runs * rows)
        (λ r h. sources_entries (r / rows) (r % rows) (row_below runs rows r h))
        ∙ sym (built_runs w.stand K table levels runs)

    pub meets_levels : (sum_step level_sum Ds K (table_of table levels runs)).levels ≡ (built_sheet list entries widths rows K table levels runs).levels
    unfolding sum_step from_sources built_sheet
    meets_levels = sources_levels

    pub meets_size : (sum_step level_sum Ds K (table_of table levels runs)).runs ≡ (built_sheet list entries widths rows K table levels runs).runs
    unfolding sum_step from_sources built_sheet table_of
    meets_size = ap (λ (M : ℕ). runs * M) equal

-- ---- the adjoined table, and the questions

-- a table that is none is one with no columns
pub adjoined_same : (list entries widths : List ℕ) (rows : ℕ) (t : NamedTable) (table levels : List ℕ) (runs : ℕ)
    → built_sheet list entries widths rows (adjoined_table rows (some_table list t)) table levels runs ≡ built_sheet list entries widths rows (table_in list t) table levels runs
unfolding adjoined_table some_table table_in built_sheet built_run run_of
adjoined_same list entries widths rows (Own n k levels_at entries_at) table levels runs = refl
adjoined_same list entries widths rows (House number) table levels runs = refl
adjoined_same list entries widths rows Missing table levels runs = refl

pub adjoins_missing : (list : List ℕ) (t : NamedTable) (rows : ℕ) → is_missing t ≡ true → true ≡ eqb (adjoined_table rows (some_table list t)).runs rows
unfolding is_missing adjoined_table some_table
adjoins_missing list (Own n k levels_at entries_at) rows e = untrue e
adjoins_missing list (House number) rows e = untrue e
adjoins_missing list Missing rows e = sym (eq-eqb rows rows refl)

pub adjoins_table : (list : List ℕ) (t : NamedTable) (rows : ℕ) → is_missing t ≡ false → table_in list t ≡ adjoined_table rows (some_table list t)
unfolding is_missing adjoined_table some_table
adjoins_table list (Own n k levels_at entries_at) rows e = refl
adjoins_table list (House number) rows e = refl
adjoins_table list Missing rows e = untrue (sym e)

-- k of M runs, where it has any columns
pub adjoins_rows : (list : List ℕ) (t : NamedTable) (rows : ℕ) → eqb (adjoined_table rows (some_table list t)).runs rows ≡ true → Adjoins (table_in list t) rows
unfolding adjoined_table some_table Adjoins table_in
adjoins_rows list (Own n k levels_at entries_at) rows e = λ some. eqb-true _ rows e
adjoins_rows list (House number) rows e = λ some. eqb-true _ rows e
adjoins_rows list Missing rows e = λ some. absurd (omega arith)

-- ---- question 6

-- part by part
module _ (rows : ℕ) (Ds : List Matrix) (K : Table) (levels : List ℕ) where
  pub matrices_misfit : false ≡ fit_together rows Ds → false ≡ parts_fit rows Ds K levels
  unfolding parts_fit
  matrices_misfit fails = rw (← fails)

  module _ {list entries widths : List ℕ} (w : Serves list Ds rows entries widths) where
    served_same : all_of (λ s. member s (map modulus_of Ds)) levels ≡ all_of (λ s. ltb 0 (get_or widths s 0)) levels
    served_same = ap (λ (test : ℕ → Bool). all_of test levels) (fun_ext (serves_member w))

    pub levels_misfit : false ≡ all_of (λ s. ltb 0 (get_or widths s 0)) levels → false ≡ parts_fit rows Ds K levels
    unfolding parts_fit
    levels_misfit fails = rw (served_same ∙ sym fails, and-false) refl

    pub adjoined_decides : {b : Bool} → true ≡ fit_together rows Ds → true ≡ all_of (λ s. ltb 0 (get_or widths s 0)) levels → b ≡ eqb K.runs rows
        → b ≡ parts_fit rows Ds K levels
    unfolding parts_fit
    adjoined_decides one two last = rw (← one, served_same ∙ sym two) last

  pub adjoined_fits : parts_fit rows Ds K levels ≡ true → eqb K.runs rows ≡ true
  unfolding parts_fit
  adjoined_fits holds = right_true (fit_together rows Ds && all_of (λ s. member s (map modulus_of Ds)) levels) holds
    where
      right_true : (a : Bool) → (a && eqb K.runs rows) ≡ true → eqb K.runs rows ≡ true
      right_true true e = e
      right_true false e = untrue e

module _ (Ds : List Matrix) (k : Option Table) (S : Table) (rows : ℕ) (e : rows_of Ds ≡ rows) (n : ℕ) (table levels : List ℕ) where
  pub same_test : sum_fits Ds (adjoined_table rows k) S ≡ parts_fit rows Ds (adjoined_table rows k) S.levels
  unfolding sum_fits parts_fit fit_together
  same_test = rw e

  pub left_misfit : false ≡ parts_fit rows Ds (adjoined_table rows k) S.levels → Left (operate n S (sum Ds k)) table levels (Refused (PartsDoNotFit n)) table levels
  unfolding operate fits Left
  left_misfit fails = rw (e, same_test ∙ sym fails) (refl, refl, refl)

  pub left_fits : (answer : Answer) (table' levels' : List ℕ) → true ≡ parts_fit rows Ds (adjoined_table rows k) S.levels
      → Left (sized n (sum_step level_sum Ds (adjoined_table rows k) S)) table levels answer table' levels' → Left (operate n S (sum Ds k)) table levels answer table' levels'
  unfolding unless operate fits uneven_matrix applied wrong_member after_sums
  left_fits answer table' levels' holds left = rw (e, same_test ∙ sym holds) left

-- ---- the sheet that is built and the definition's are left alike

pub meets_left : {list : List ℕ} {Ds : List Matrix} {rows : ℕ} {entries widths : List ℕ} → Serves list Ds rows entries widths → rows_of Ds ≡ rows
    → (t : NamedTable) (cells counts : List ℕ) (runs n : ℕ) (table levels : List ℕ) (answer : Answer) (table' levels' : List ℕ)
    → Left (sized n (built_sheet list entries widths rows (table_in list t) cells counts runs)) table levels answer table' levels'
    → Left (sized n (sum_step level_sum Ds (adjoined_table rows (some_table list t)) (table_of cells counts runs))) table levels answer table' levels'
meets_left {list} {Ds} {rows} {entries} {widths} w e t cells counts runs n table levels answer table' levels' left =
    let K = adjoined_table rows (some_table list t) in
    left_same n (built_sheet list entries widths rows K cells counts runs) (sum_step level_sum Ds K (table_of cells counts runs))
    (sym (meets_size w K cells counts runs e)) (sym (meets_levels w K cells counts runs e)) (sym (meets_runs w K cells counts runs e)) table levels answer table' levels'
    (rw (adjoined_same list entries widths rows t cells counts runs) left)

-- M is the rows of the first matrix
pub rows_first : (list numbers : List ℕ) → 0 < length numbers → rows_of (matrices_at list numbers) ≡ (matrix_at list (get_or numbers 0 0)).rows
unfolding rows_of matrices_at
rows_first list [] h = absurd (omega arith)
rows_first list (d ∷ ds) h = refl
