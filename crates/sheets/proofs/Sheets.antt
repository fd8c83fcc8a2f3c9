-- From no sheet, every sheet on the way is an orthogonal array of strength two within the limits: TAKE and FIELD leave one, and SUM, MERGE,
-- SPLIT and CROSS leave one where the sheet before is one.
-- Assumes nothing.
use mathlib.Core.Path.{◌≡◌, refl, subst}
use mathlib.Core.Bool.{Bool, ◌||◌}
use mathlib.Core.List.{List, [], ◌∷◌}
use mathlib.Core.Option.{Option, none, some, bind-eq-some_iff, map-eq-some_iff, map, none-ne-some, some-injective}
use Prim.Native.Nat.{ℕ, ◌-◌, ◌*◌, ◌<◌}
use native.Mathlib.Nat.{lt_of_lt_of_le, not-suc-le-zero}
use native.Mathlib.Omega.{arith}
use lib.Dec.{T, eqb, leb, leb→le}
use Rattle.finite.specs.Sum.{every}
use Rattle.finite.proofs.Tests.{all_every}
use Rattle.galois.specs.Arithmetic.{member}
use Rattle.galois.proofs.Tests.{otherwise, among}
use Rattle.counting.specs.Table.{Table, columns, InRange}
use Rattle.counting.specs.Matrix.{Matrix}
use Rattle.order.specs.Order.{Step, TAKE, FIELD, SUM, MERGE, SPLIT, CROSS, Order, All, MergePrime, StepLimits, WithinLimits}
use Rattle.order.specs.Range.{EntriesInRange}
use Rattle.step_tables.specs.Sheet.{AllLevels, LevelCount, Sound, SmallEnough, take_step}
use Rattle.step_tables.specs.Sum.{level_sum, rows_of, adjoined_table}
use Rattle.step_tables.specs.Merge.{merge_primes}
use Rattle.sheets.specs.Ingredients.{table_named, generator_named, matrices_named, adjoined_named}
use Rattle.sheets.specs.Steps.{filled, Operation, sum, merge, split, cross, field_step, opening, operation, applied, first_step, later_step}
use Rattle.sheets.specs.Fillable.{MeetsDefinition, Fits, EvenMatrices, TrueSums, LaterCarried, AllCarried, later_sheets, sheets, latest, final_sheet}
use Rattle.sheets.proofs.Naming.{opens_iff, does_iff}
use Rattle.sheets.proofs.Carried.{first_carried, step_carried}
use Rattle.step_tables.proofs.Sum.{sum_leaves, sum_levels_lem}
use Rattle.step_tables.proofs.Cross.{cross_leaves, cross_levels_lem}
use Rattle.step_tables.proofs.Merge.{merge_leaves, merge_levels_lem}
use Rattle.step_tables.proofs.Split.{split_leaves, split_levels_lem}
use Rattle.sheets.proofs.Ingredients.{table_sound, matrices_passing, generator_sound, adjoined_sound}

-- a level of a sound sheet fits a byte with room to spare
pub sound_cell : {S : Table} → Sound S → (r c : ℕ) → r < S.runs → c < columns S → S.cell r c < 64
unfolding InRange AllLevels
sound_cell sound r c h k = lt_of_lt_of_le (sound.array.in_range r c h k) (sound.levels_within c k).1

-- ---- the p of MERGE

primes_test : ℕ → Bool
primes_test p = eqb p 0 || (eqb p 1 || (eqb p 4 || (eqb p 6 || member p merge_primes)))

primes : T (every 8 primes_test)
unfolding primes_test every
primes = tt

-- the numbers in 01's limits are the four
merge_prime : (p : ℕ) → MergePrime p → T (member p merge_primes)
unfolding primes_test
merge_prime p (between, four, six) =
    let tested = all_every 8 primes_test primes p (omega arith) in
    otherwise _ six (otherwise _ four (otherwise _ (λ (e : p ≡ 1). omega arith) (otherwise _ (λ (e : p ≡ 0). omega arith) tested)))

merged_levels : (p : ℕ) → T (member p merge_primes) → LevelCount (p * p)
merged_levels p m =
    (leb→le 2 (p * p) (among (λ q. leb 2 (q * q)) merge_primes tt p m), leb→le (p * p) 64 (among (λ q. leb (q * q) 64) merge_primes tt p m))

-- ---- each step

-- TAKE leaves what the check of the table promises
take_sound : {A : Table} → Sound A → Sound (take_step A)
unfolding take_step
take_sound sound = sound

adjoined_levels : (M : ℕ) (k : Option Table) → ((K : Table) → k ≡ some K → Sound K) → AllLevels LevelCount (adjoined_table M k)
unfolding adjoined_table
adjoined_levels M none tables = unfold AllLevels in (λ c h. absurd (not-suc-le-zero h))
adjoined_levels M (some K) tables = (tables K refl).levels_within

module _ (o : Order) (limits : WithinLimits o) (range : EntriesInRange o) (passing : All MeetsDefinition o.ingredients) where
  -- the sheet that a first step leaves
  opening_sound : (step : Step) (S : Table) → opening o step ≡ some S → Sound S
  unfolding opening
  opening_sound (TAKE i) S e =
      let (A, named, same) = (map-eq-some_iff take_step (table_named o i)).0 e in
      subst Sound same (take_sound (table_sound o limits range passing i A named))
  opening_sound (FIELD i) S e =
      let (G, named, same) = (map-eq-some_iff field_step (generator_named o i)).0 e in
      subst Sound same (generator_sound o limits range passing i G named)
  opening_sound (SUM ds k) S e = absurd (none-ne-some S e)
  opening_sound (MERGE p cs) S e = absurd (none-ne-some S e)
  opening_sound (SPLIT c i) S e = absurd (none-ne-some S e)
  opening_sound (CROSS ds k h) S e = absurd (none-ne-some S e)

  module _ (S : Table) (sheet : Sound S) where
    -- what is to be shown of a later step
    abbrev Keeps : Operation → Type 0
    Keeps f = Fits f S → EvenMatrices f S → TrueSums f S → Sound (applied f S)

    sum_keeps : (ds : List ℕ) (k : ℕ) (Ds : List Matrix) (found : Option Table) → matrices_named o ds ≡ some Ds → adjoined_named o k ≡ some found
        → Keeps (sum Ds found)
    unfolding Fits applied
    sum_keeps ds k Ds found named adjoined fits even sums =
        let tables = adjoined_sound o limits range passing k found adjoined in
        record {
          array = sum_leaves Ds found S fits (matrices_passing o limits range passing ds Ds named) (λ K e. (tables K e).array) sheet.array;
          levels_within = sum_levels_lem level_sum Ds (adjoined_table (rows_of Ds) found) S LevelCount (adjoined_levels (rows_of Ds) found tables) sheet.levels_within;
        }

    merge_keeps : (p : ℕ) (cs : List ℕ) → MergePrime p → Keeps (merge p cs)
    unfolding Fits TrueSums applied
    merge_keeps p cs within fits even sums =
        let prime = merge_prime p within in
        record {
          array = merge_leaves p cs S prime fits sums 2 sheet.array;
          levels_within = merge_levels_lem p cs S prime fits sums 2 sheet.array LevelCount (merged_levels p prime) sheet.levels_within;
        }

    split_keeps : (c i : ℕ) (A : Table) → table_named o i ≡ some A → Keeps (split c A)
    unfolding Fits applied
    split_keeps c i A named fits even sums =
        let part = table_sound o limits range passing i A named in
        record {
          array = split_leaves c A S fits 2 sheet.array part.array;
          levels_within = split_levels_lem c A S fits 2 sheet.array LevelCount sheet.levels_within part.levels_within;
        }

    cross_keeps : (ds : List ℕ) (k h : ℕ) (Ds : List Matrix) (found : Option Table) (H : Table)
        → matrices_named o ds ≡ some Ds → adjoined_named o k ≡ some found → table_named o h ≡ some H → Keeps (cross ds Ds found H)
    unfolding Fits EvenMatrices applied
    cross_keeps ds k h Ds found H named adjoined other fits even sums =
        let tables = adjoined_sound o limits range passing k found adjoined in
        let side = table_sound o limits range passing h H other in
        record {
          array = cross_leaves Ds found H S fits even (matrices_passing o limits range passing ds Ds named) (λ K e. (tables K e).array) side.array sheet.array;
          levels_within =
              cross_levels_lem
              level_sum
              Ds
              (adjoined_table (rows_of Ds) found)
              H
              S
              LevelCount
              (adjoined_levels (rows_of Ds) found tables)
              side.levels_within
              sheet.levels_within;
        }

    -- the sheet that a later step leaves
    later_sound : (step : Step) → StepLimits step → (f : Operation) → operation o step ≡ some f → Keeps f
    unfolding operation
    later_sound (TAKE i) within f e = absurd (none-ne-some f e)
    later_sound (FIELD i) within f e = absurd (none-ne-some f e)
    later_sound (SUM ds k) within f e =
        let (Ds, named, rest) = (bind-eq-some_iff (matrices_named o ds) (λ Ds. map (sum Ds) (adjoined_named o k))).0 e in
        let (found, adjoined, same) = (map-eq-some_iff (sum Ds) (adjoined_named o k)).0 rest in
        subst Keeps same (sum_keeps ds k Ds found named adjoined)
    later_sound (MERGE p cs) within f e = subst Keeps (some-injective _ f e) (merge_keeps p _ within.0)
    later_sound (SPLIT c i) within f e =
        let (A, named, same) = (map-eq-some_iff (split (c - 1)) (table_named o i)).0 e in
        subst Keeps same (split_keeps (c - 1) i A named)
    later_sound (CROSS ds k h) within f e =
        let (Ds, named, rest) = (bind-eq-some_iff (matrices_named o ds) _).0 e in
        let (found, adjoined, last) = (bind-eq-some_iff (adjoined_named o k) _).0 rest in
        let (H, other, same) = (map-eq-some_iff (cross ds Ds found) (table_named o h)).0 last in
        subst Keeps same (cross_keeps ds k h Ds found H named adjoined other)

  -- ---- outcomes of single steps

  pub first_filled : (step : Step) {F : Table} → first_step o step ≡ filled F → Sound F × SmallEnough F
  first_filled step e =
      let (c, same) = first_carried o step e in
      subst (λ F. Sound F × SmallEnough F) same (opening_sound step c.sheet ((opens_iff o step).1 c.allowed), c.small_enough)

  pub later_filled : (n : ℕ) (S : Table) → Sound S → (step : Step) → StepLimits step → {F : Table} → later_step o n S step ≡ filled F
      → Sound F × SmallEnough F
  later_filled n S sheet step within e =
      let (c, same) = step_carried o n S step e in
      subst
      (λ F. Sound F × SmallEnough F)
      same
      (later_sound S sheet step within c.doing ((does_iff o step).1 c.allowed) c.fitting c.even_matrices c.true_sums, c.small_enough)

  -- ---- all steps

  later_sheets_lem : (S : Table) → Sound S → (steps : List Step) → All StepLimits steps → (c : LaterCarried o S steps)
      → All (λ T. Sound T × SmallEnough T) (later_sheets o S steps c)
  unfolding LaterCarried later_sheets
  later_sheets_lem S sheet [] within c = tt
  later_sheets_lem S sheet (step ∷ steps) within c =
      let next = later_sound S sheet step within.0 c.0.doing ((does_iff o step).1 c.0.allowed) c.0.fitting c.0.even_matrices c.0.true_sums in
      ((next, c.0.small_enough), later_sheets_lem (applied c.0.doing S) next steps within.1 c.1)

  -- every sheet on the way
  pub sheets_sound : (steps : List Step) → All StepLimits steps → (c : AllCarried o steps) → All (λ T. Sound T × SmallEnough T) (sheets o steps c)
  unfolding AllCarried sheets
  sheets_sound [] within c = absurd c
  sheets_sound (step ∷ steps) within c =
      let first = opening_sound step c.0.sheet ((opens_iff o step).1 c.0.allowed) in
      ((first, c.0.small_enough), later_sheets_lem c.0.sheet first steps within.1 c.1)

  latest_all : (P : Table → Type 0) (S : Table) (Ts : List Table) → P S → All P Ts → P (latest S Ts)
  latest_all P S [] here all = here
  latest_all P S (T ∷ Ts) here all = latest_all P T Ts all.0 all.1

  -- and so the last
  pub final_sound : (steps : List Step) → All StepLimits steps → (c : AllCarried o steps) → Sound (final_sheet o steps c) × SmallEnough (final_sheet o steps c)
  unfolding AllCarried sheets final_sheet
  final_sound [] within c = absurd c
  final_sound (step ∷ steps) within c =
      let all = sheets_sound (step ∷ steps) within c in
      latest_all (λ T. Sound T × SmallEnough T) c.0.sheet (later_sheets o c.0.sheet steps c.1) all.0 all.1
