-- Every sheet has a run and a column: the tables and generators of an order do, within document 01's limits, and so do the house tables, and no step takes the
-- last run or the last column away.
-- Assumes nothing.
use mathlib.Core.Path.{◌≡◌, subst}
use mathlib.Core.Logic.{⊎_elim}
use mathlib.Core.Bool.{Bool, true, false, cond, ◌&&◌}
use mathlib.Core.List.Memᴰ
use mathlib.Core.List.{List, [], ◌∷◌, Memᴰ}
use mathlib.Core.Option.{Option}
use Prim.Native.Nat.{ℕ, ◌≤◌}
use native.Mathlib.Nat.{mul-pos, one-le-pow}
use native.Mathlib.Omega.{arith}
use lib.Dec.{T, eqb, leb, leb→le}
use lib.ListN.{length, length-map}
use Rattle.finite.specs.Sum.{sum}
use Rattle.finite.proofs.Sums.{sum_le}
use Rattle.finite.proofs.Counts.{count_le}
use Rattle.finite.proofs.Tests.{T_and}
use Rattle.counting.specs.Table.{Table, columns, levels_of, table_of}
use Rattle.counting.specs.Matrix.{Matrix, matrix_of}
use Rattle.counting.specs.Generator.{Generator, generator_of}
use Rattle.galois.specs.Arithmetic.{member}
use Rattle.house.specs.House.{house101, house102, house103, house104, house_of}
use Rattle.order.specs.Order.{Ingredient, Step, TAKE, FIELD, SUM, MERGE, SPLIT, CROSS, Order, All, IngredientLimits, StepLimits, WithinLimits}
use Rattle.step_tables.specs.Sheet.{from_sources, take_step}
use Rattle.step_tables.specs.Field.{field_table}
use Rattle.step_tables.specs.Sum.{level_sum, rows_of, serving, adjoined_table, summed_columns, sum_step, SumFits}
use Rattle.step_tables.specs.Cross.{cross_step, CrossFits}
use Rattle.step_tables.specs.Merge.{merge_step, MergeFits}
use Rattle.step_tables.specs.Split.{split_step, SplitFits}
use Rattle.sheets.specs.Steps.{Operation, field_step, applied}
use Rattle.sheets.specs.Naming.{IsIngredient, NamesMatrix, NamesGenerator, NamesTable, NamesMatrices, Opens, Does}
use Rattle.sheets.specs.Fillable.{Fits, LaterCarried, AllCarried, later_sheets, latest, final_sheet}
use Rattle.step_tables.proofs.Lists.{mem_get_d, count_member}
use Rattle.step_tables.proofs.Sum.{sum_columns, serving_some}
use Rattle.step_tables.proofs.Cross.{cross_columns}
use Rattle.step_tables.proofs.Merge.{merge_columns}
use Rattle.step_tables.proofs.Split.{split_columns}
use Rattle.sheets.proofs.Ingredients.{all_at}

pub record NonEmpty (S : Table) : Type 0 where
  pub runs_some : 1 ≤ S.runs
  pub columns_some : 1 ≤ columns S

-- ---- the house tables

has_some : Table → Bool
has_some A = leb 1 A.runs && leb 1 (columns A)

has_some_lem : (A : Table) → T (has_some A) → NonEmpty A
unfolding has_some
has_some_lem A t =
    let b = (T_and (leb 1 A.runs) (leb 1 (columns A))).0 t in
    record { runs_some = leb→le 1 A.runs b.0; columns_some = leb→le 1 (columns A) b.1 }

either_some : (b : Bool) (A B : Table) → T (has_some A) → T (has_some B) → T (has_some (cond b A B))
either_some true A B t u = t
either_some false A B t u = u

house_some : (n : ℕ) → NonEmpty (house_of n)
unfolding house_of has_some house101 house102 house103 house104
house_some n =
    has_some_lem _
    (either_some (eqb n 101) house101 _ tt (either_some (eqb n 102) house102 _ tt (either_some (eqb n 103) house103 house104 tt tt)))

-- ---- what an order names

module _ (o : Order) (limits : WithinLimits o) where
  ingredient_limits : {i : ℕ} {g : Ingredient} → IsIngredient o i g → IngredientLimits g
  ingredient_limits n = all_at IngredientLimits o.ingredients limits.each_ingredient n.place n.stands

  table_some : (i : ℕ) {A : Table} → NamesTable o i A → NonEmpty A
  unfolding table_of
  table_some i {A} named =
      ⊎_elim
      (λ house. subst NonEmpty house.1 (house_some i))
      (λ own.
      let within = ingredient_limits own.1.ingredient in
      subst NonEmpty own.1.same (record { runs_some = within.0.0; columns_some = within.1.0 }))
      named

  -- a matrix has a row and a column
  abbrev Filled : Matrix → Type 0
  Filled D = (1 ≤ D.rows) × (1 ≤ D.columns)

  matrix_some : (i : ℕ) {D : Matrix} → NamesMatrix o i D → Filled D
  unfolding matrix_of
  matrix_some i named = let within = ingredient_limits named.ingredient in subst Filled named.same (within.0.0, within.1.0)

  matrices_some : (ds : List ℕ) (Ds : List Matrix) → NamesMatrices o ds Ds → (D : Matrix) → Memᴰ D Ds → Filled D
  unfolding NamesMatrices
  matrices_some [] [] named D m = absurd (Memᴰ.not-nil m)
  matrices_some [] (E ∷ Es) named D m = absurd named
  matrices_some (d ∷ ds) [] named D m = absurd named
  matrices_some (d ∷ ds) (E ∷ Es) named D m =
      ⊎_elim (λ (same : D ≡ E). rw same (matrix_some d named.0)) (matrices_some ds Es named.1 D) (Memᴰ.cases_cons m)

  rows_some : (ds : List ℕ) (Ds : List Matrix) → 1 ≤ length ds → NamesMatrices o ds Ds → 1 ≤ rows_of Ds
  unfolding NamesMatrices rows_of
  rows_some [] Ds one named = absurd (omega arith)
  rows_some (d ∷ ds) [] one named = absurd named
  rows_some (d ∷ ds) (D ∷ Ds) one named = (matrix_some d named.0).0

  generator_some : (i : ℕ) {G : Generator} → NamesGenerator o i G → NonEmpty (field_step G)
  unfolding field_step field_table generator_of
  generator_some i named =
      let within = ingredient_limits named.ingredient in
      subst (λ G. NonEmpty (field_step G)) named.same
      (record {
        runs_some = one-le-pow named.coordinates named.size (omega (arith, within.2.0));
        columns_some = rw length-map within.1.0;
      })

  -- ---- the steps

  opening_some : (step : Step) {S : Table} → Opens o step S → NonEmpty S
  unfolding Opens take_step
  opening_some (TAKE i) opens = subst NonEmpty opens.2 (table_some i opens.1)
  opening_some (FIELD i) opens = subst NonEmpty opens.2 (generator_some i opens.1)
  opening_some (SUM ds k) opens = absurd opens
  opening_some (MERGE p cs) opens = absurd opens
  opening_some (SPLIT c i) opens = absurd opens
  opening_some (CROSS ds k h) opens = absurd opens

  module _ (S : Table) (sheet : NonEmpty S) where
    sum_some : (ds : List ℕ) (Ds : List Matrix) (K : Option Table) → 1 ≤ length ds → NamesMatrices o ds Ds → SumFits Ds (adjoined_table (rows_of Ds) K) S
        → NonEmpty (sum_step level_sum Ds (adjoined_table (rows_of Ds) K) S)
    unfolding sum from_sources summed_columns sum_step
    sum_some ds Ds K one named fits =
        let A = adjoined_table (rows_of Ds) K in
        let terms : ℕ → ℕ = λ j. summed_columns (serving Ds (levels_of S j)) in
        let (D, is, m) = serving_some Ds (levels_of S 0) (fits.served (levels_of S 0) (mem_get_d S.levels 0 0 sheet.columns_some)) in
        let first : 1 ≤ terms 0 = rw is (matrices_some ds Ds named D m).1 in
        let more : sum 1 terms ≤ sum (columns S) terms = sum_le terms sheet.columns_some in
        record {
          runs_some = mul-pos sheet.runs_some (rows_some ds Ds one named);
          columns_some = rw (sum_columns level_sum Ds A S) (omega arith);
        }

    merge_some : (p : ℕ) (cs : List ℕ) → MergeFits p cs S → NonEmpty (merge_step p cs S)
    unfolding merge_step from_sources
    merge_some p cs fits =
        let many = count_member (columns S) cs fits.different fits.on_sheet in
        record {
          runs_some = sheet.runs_some;
          columns_some = omega (arith, merge_columns p cs S fits, many, fits.many, count_le (columns S) (λ q. member q cs));
        }

    split_some : (c : ℕ) (A : Table) → NonEmpty A → SplitFits c A S → NonEmpty (split_step c A S)
    unfolding split_step from_sources
    split_some c A part fits =
        record { runs_some = sheet.runs_some; columns_some = omega (arith, split_columns c A S fits, sheet.columns_some, part.columns_some) }

    -- what CROSS leaves has SUM's columns
    cross_some : (ds : List ℕ) (Ds : List Matrix) (K : Option Table) (H : Table) → 1 ≤ length ds → NamesMatrices o ds Ds
        → CrossFits Ds (adjoined_table (rows_of Ds) K) H S → NonEmpty (cross_step level_sum Ds (adjoined_table (rows_of Ds) K) H S)
    unfolding from_sources sum_step cross_step
    cross_some ds Ds K H one named fits =
        let summed = sum_some ds Ds K one named fits.as_sum in
        record {
          runs_some = summed.runs_some;
          columns_some = rw (cross_columns level_sum Ds (adjoined_table (rows_of Ds) K) H S) (omega (arith, summed.columns_some));
        }

    later_some : (step : Step) → StepLimits step → (f : Operation) → Does o step f → Fits f S → NonEmpty (applied f S)
    unfolding Does Fits applied
    later_some (TAKE i) within f does = absurd does
    later_some (FIELD i) within f does = absurd does
    later_some (SUM ds k) within f (Ds, K, named, adjoined, same) =
        subst (λ g. Fits g S → NonEmpty (applied g S)) same (sum_some ds Ds K within.0.0 named)
    later_some (MERGE p cs) within f does = subst (λ g. Fits g S → NonEmpty (applied g S)) does (merge_some p _)
    later_some (SPLIT c i) within f (A, named, same) =
        subst (λ g. Fits g S → NonEmpty (applied g S)) same (split_some _ A (table_some i named))
    later_some (CROSS ds k h) within f (Ds, K, H, named, adjoined, other, same) =
        subst (λ g. Fits g S → NonEmpty (applied g S)) same (cross_some ds Ds K H within.0.0.0 named)

  -- ---- all steps

  later_sheets_some : (S : Table) → NonEmpty S → (steps : List Step) → All StepLimits steps → (c : LaterCarried o S steps)
      → NonEmpty (latest S (later_sheets o S steps c))
  unfolding LaterCarried later_sheets
  later_sheets_some S sheet [] within c = sheet
  later_sheets_some S sheet (step ∷ steps) within c =
      later_sheets_some (applied c.0.doing S)
      (later_some S sheet step within.0 c.0.doing c.0.allowed c.0.fitting)
      steps
      within.1
      c.1

  pub final_some : (steps : List Step) → All StepLimits steps → (c : AllCarried o steps) → NonEmpty (final_sheet o steps c)
  unfolding AllCarried final_sheet
  final_some [] within c = absurd c
  final_some (step ∷ steps) within c =
      later_sheets_some c.0.sheet (opening_some step c.0.allowed) steps within.1 c.1
