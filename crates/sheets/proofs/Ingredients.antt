-- What an ingredient number names meets its published definition, with every entry in range: from the conditions of questions 2 to 4 on the order, and for
-- the house tables from counting's computed tests.
-- Assumes nothing.
use mathlib.Core.Path.{◌≡◌, refl, sym, ◌∙◌, ap, subst}
use mathlib.Core.Logic.{◌⊎◌, inl, inr, ⊎_elim}
use mathlib.Core.Bool.{Bool, true, false, cond, ◌&&◌, ◌||◌}
use mathlib.Core.List.Memᴰ
use mathlib.Core.List.{List, [], ◌∷◌, Memᴰ}
use mathlib.Core.Option.{Option, none, some, map, bind-eq-some_iff, map-eq-some_iff, some-injective, none-ne-some}
use Prim.Native.Nat.{ℕ, zero, suc, ◌+◌, ◌*◌, ◌^◌, ◌≤◌, ◌<◌}
use native.Mathlib.Nat.{le_of_eq, le_of_suc-le-suc, not-suc-le-zero, one-le-pow, pow-suc, mul-le-mul}
use native.Mathlib.Omega.{arith}
use lib.Arith.{digits_mod}
use lib.Dec.{T, eqb, leb, leb→le}
use lib.ListN.{length, get_or, get_elem?}
use Rattle.finite.specs.First.{◌or_else◌}
use Rattle.finite.specs.Sum.{sum, every}
use Rattle.finite.proofs.Tests.{T_and, all_every}
use Rattle.finite.proofs.Sums.{sum_first}
use Rattle.finite.proofs.Fits.{place_below}
use Rattle.galois.specs.Arithmetic.{field_size, field_sum, field_product}
use Rattle.galois.specs.Laws.{Field}
use Rattle.galois.proofs.Fields.{field}
use Rattle.galois.proofs.Tests.{otherwise}
use Rattle.counting.specs.Table.{Table, columns, levels_of, table_of, InRange}
use Rattle.counting.specs.Matrix.{Matrix, matrix_of, MatrixInRange}
use Rattle.counting.specs.Generator.{Generator, factors, generator_of, width, ElementsInRange}
use Rattle.house.specs.House.{house101, house102, house103, house104, house_of, house_table}
use Rattle.house.proofs.Passing.{house_passes, house_even, house_number}
use Rattle.order.specs.Order.{Ingredient, table, matrix, generator, Order, total, All, Between, GeneratorField, FactorWidth, IngredientLimits, WithinLimits, entries_of}
use Rattle.order.specs.Range.{bound, EntriesInRange}
use Rattle.step_tables.specs.Lists.{all_of}
use Rattle.step_tables.specs.Sheet.{AllLevels, LevelCount, Sound}
use Rattle.step_tables.specs.Sum.{PassingMatrix}
use Rattle.sheets.specs.Ingredients.{as_table, as_matrix, as_generator, listed, table_named, matrix_named, generator_named, matrices_named, adjoined_named}
use Rattle.sheets.specs.Steps.{field_step}
use Rattle.sheets.specs.Fillable.{MeetsDefinition}
use Rattle.step_tables.proofs.Lists.{all_of_mem, mem_get_d}
use Rattle.step_tables.proofs.FieldTable.{field_columns, field_levels, field_leaves}

-- ---- lists

module _ {A : Type 0} (P : A → Type 0) where
  -- P holds of the element at a place
  pub all_at : (xs : List A) → All P xs → (k : ℕ) {x : A} → get_elem? xs k ≡ some x → P x
  all_at [] all k {x} e = absurd (none-ne-some x e)
  all_at (y ∷ ys) all zero {x} e = subst P (some-injective y x e) all.0
  all_at (y ∷ ys) all (suc k) e = all_at ys all.1 k e

  pub all_get_d : (xs : List A) → All P xs → (k : ℕ) (d : A) → k < length xs → P (get_or xs k d)
  all_get_d [] all k d h = absurd (not-suc-le-zero h)
  all_get_d (x ∷ xs) all zero d h = all.0
  all_get_d (x ∷ xs) all (suc k) d h = all_get_d xs all.1 k d (le_of_suc-le-suc h)

-- the width of a generator is the total that order reads
pub width_total : (us : List ℕ) → width us ≡ total us
unfolding width sum
width_total [] = refl
width_total (u ∷ us) = sum_first (length us) (λ i. get_or (u ∷ us) i 0) ∙ ap (λ n. u + n) (width_total us)

-- ---- sizes of fields

sizes_test : ℕ → Bool
sizes_test s = eqb s 0 || (eqb s 1 || (eqb s 6 || field_size s))

sizes : T (every 10 sizes_test)
unfolding sizes_test field_size every
sizes = tt

pub field_size_lem : (t s : ℕ) → GeneratorField t s → T (field_size s)
unfolding sizes_test
field_size_lem t s (between, six, most) =
    let tested = all_every 10 sizes_test sizes s (omega arith) in
    otherwise _ six (otherwise _ (λ (e : s ≡ 1). omega arith) (otherwise _ (λ (e : s ≡ 0). omega arith) tested))

-- a field's size to a power of at least 1
power_least : (s u : ℕ) → 2 ≤ s → 1 ≤ u → 2 ≤ s ^ u
power_least s zero h k = absurd (not-suc-le-zero k)
power_least s (suc u) h k = omega (arith, pow-suc s u, mul-le-mul (one-le-pow u s (omega arith)) h)

-- ---- ingredients of the list

-- each entry is below its levels, p or s
abbrev pub InBounds : Ingredient → Type 0
InBounds g = (q : ℕ) → q < length (entries_of g) → get_or (entries_of g) q 0 < bound g q

module _ (rows : ℕ) (levels entries : List ℕ) (limits : IngredientLimits (table rows levels entries)) where
  pub table_in_range : InBounds (table rows levels entries) → InRange (table_of entries levels rows)
  unfolding InRange table_of
  table_in_range bounds r c hr hc =
      rw (digits_mod r hc) at (bounds (r * length levels + c) (place_below hr hc (le_of_eq (sym limits.3))))

  pub table_levels : AllLevels LevelCount (table_of entries levels rows)
  unfolding AllLevels table_of
  table_levels c h = all_get_d (Between 2 64) levels limits.2 c 0 h

module _ (rows columns p : ℕ) (entries : List ℕ) (limits : IngredientLimits (matrix rows columns p entries)) where
  pub matrix_in_range : InBounds (matrix rows columns p entries) → MatrixInRange (matrix_of entries rows columns p)
  unfolding MatrixInRange matrix_of
  matrix_in_range bounds r c hr hc = bounds (r * columns + c) (place_below hr hc (le_of_eq (sym limits.3)))

module _ (t s : ℕ) (widths entries : List ℕ) (limits : IngredientLimits (generator t s widths entries)) where
  pub elements_in_range : InBounds (generator t s widths entries) → ElementsInRange (generator_of entries t s widths)
  unfolding ElementsInRange generator_of
  elements_in_range bounds r c hr hc =
      bounds (r * width widths + c) (place_below hr hc (le_of_eq (ap (λ n. t * n) (width_total widths) ∙ sym limits.4)))

  generator_field : Field s (field_sum s) (field_product s)
  generator_field = field s (field_size_lem t s limits.2)

  generator_levels : AllLevels LevelCount (field_step (generator_of entries t s widths))
  unfolding AllLevels field_step generator_of
  generator_levels c h =
      let G = generator_of entries t s widths in
      let below : c < factors G = rw (field_columns _ _ G) at h in
      let width = all_get_d (FactorWidth s) widths limits.3 c 0 below in
      rw (field_levels _ _ G below) (power_least s (get_or widths c 0) limits.2.0.0 width.0, width.1)

-- what questions 2 to 4 say of an ingredient
record Known (g : Ingredient) : Type 0 where
  limits : IngredientLimits g
  bounds : InBounds g
  meets : MeetsDefinition g

known_table : (rows : ℕ) (levels entries : List ℕ) → Known (table rows levels entries) → Sound (table_of entries levels rows)
unfolding MeetsDefinition
known_table rows levels entries known =
    record {
      array = record { even = known.meets; in_range = table_in_range rows levels entries known.limits known.bounds };
      levels_within = table_levels rows levels entries known.limits;
    }

known_matrix : (rows columns p : ℕ) (entries : List ℕ) → Known (matrix rows columns p entries) → PassingMatrix (matrix_of entries rows columns p)
unfolding MeetsDefinition
known_matrix rows columns p entries known =
    record { in_range = matrix_in_range rows columns p entries known.limits known.bounds; differences = known.meets }

-- FIELD of a generator of the list
known_generator : (t s : ℕ) (widths entries : List ℕ) → Known (generator t s widths entries) → Sound (field_step (generator_of entries t s widths))
unfolding MeetsDefinition field_step generator_of
known_generator t s widths entries known =
    let elements = elements_in_range t s widths entries known.limits known.bounds in
    record {
      array =
          field_leaves (field_sum s) (field_product s) (generator_of entries t s widths) (generator_field t s widths entries known.limits) elements 2
          known.meets;
      levels_within = generator_levels t s widths entries known.limits;
    }

-- ---- house tables

few_levels : Table → Bool
few_levels A = all_of (λ s. leb 2 s && leb s 64) A.levels

few_levels_lem : (A : Table) → T (few_levels A) → AllLevels LevelCount A
unfolding few_levels AllLevels
few_levels_lem A t c h =
    let s = levels_of A c in
    let both = (T_and (leb 2 s) (leb s 64)).0 ((all_of_mem (λ n. leb 2 n && leb n 64) A.levels).0 t s (mem_get_d A.levels c 0 h)) in
    (leb→le 2 s both.0, leb→le s 64 both.1)

either_few : (b : Bool) (A B : Table) → T (few_levels A) → T (few_levels B) → T (few_levels (cond b A B))
either_few true A B t u = t
either_few false A B t u = u

houses_few : (n : ℕ) → T (few_levels (house_of n))
unfolding house_of few_levels house101 house102 house103 house104
houses_few n =
    either_few (eqb n 101) house101 _ tt (either_few (eqb n 102) house102 _ tt (either_few (eqb n 103) house103 house104 tt tt))

house_sound : (n : ℕ) (A : Table) → house_table n ≡ some A → Sound A
house_sound n A e =
    record {
      array = record { even = house_even n A e; in_range = (house_passes n A e).in_range };
      levels_within = subst (AllLevels LevelCount) (house_number n A e).1 (few_levels_lem (house_of n) (houses_few n));
    }

-- ---- by number

-- what is found first, or else later
or_else_lem : {A : Type 0} (earlier later : Option A) (a : A) → (earlier or_else later) ≡ some a → (earlier ≡ some a) ⊎ (later ≡ some a)
or_else_lem none later a e = inr e
or_else_lem (some x) later a e = inl e

module _ (o : Order) (limits : WithinLimits o) (range : EntriesInRange o) (passing : All MeetsDefinition o.ingredients) where
  listed_known : {A : Type 0} (kind : Ingredient → Option A) (i : ℕ) {a : A} → listed kind o i ≡ some a → (g : Ingredient) × Known g × (kind g ≡ some a)
  unfolding listed
  listed_known kind zero {a} e = absurd (none-ne-some a e)
  listed_known kind (suc k) e =
      let (g, at, is) = (bind-eq-some_iff (get_elem? o.ingredients k) kind).0 e in
      let known : Known g =
      record {
        limits = all_at IngredientLimits o.ingredients limits.each_ingredient _ at;
        bounds = all_at InBounds o.ingredients range _ at;
        meets = all_at MeetsDefinition o.ingredients passing _ at;
      }
      in
      (g, known, is)

  table_kind : (g : Ingredient) (A : Table) → Known g → as_table g ≡ some A → Sound A
  unfolding as_table
  table_kind (table rows levels entries) A known e = subst Sound (some-injective _ A e) (known_table rows levels entries known)
  table_kind (matrix rows columns p entries) A known e = absurd (none-ne-some A e)
  table_kind (generator t s widths entries) A known e = absurd (none-ne-some A e)

  -- a table that is named is sound
  pub table_sound : (i : ℕ) (A : Table) → table_named o i ≡ some A → Sound A
  unfolding table_named
  table_sound i A e =
      ⊎_elim (house_sound i A) (λ l. let (g, known, is) = listed_known as_table i l in table_kind g A known is)
      (or_else_lem (house_table i) (listed as_table o i) A e)

  matrix_kind : (g : Ingredient) (D : Matrix) → Known g → as_matrix g ≡ some D → PassingMatrix D
  unfolding as_matrix
  matrix_kind (table rows levels entries) D known e = absurd (none-ne-some D e)
  matrix_kind (matrix rows columns p entries) D known e = subst PassingMatrix (some-injective _ D e) (known_matrix rows columns p entries known)
  matrix_kind (generator t s widths entries) D known e = absurd (none-ne-some D e)

  matrix_passing : (i : ℕ) (D : Matrix) → matrix_named o i ≡ some D → PassingMatrix D
  unfolding matrix_named
  matrix_passing i D e = let (g, known, is) = listed_known as_matrix i e in matrix_kind g D known is

  -- matrices that are named are difference matrices
  pub matrices_passing : (ds : List ℕ) (Ds : List Matrix) → matrices_named o ds ≡ some Ds → (D : Matrix) → Memᴰ D Ds → PassingMatrix D
  unfolding matrices_named
  matrices_passing [] Ds e D m = absurd (Memᴰ.not-nil (subst (Memᴰ D) (sym (some-injective [] Ds e)) m))
  matrices_passing (d ∷ ds) Ds e D m =
      let (E, first, rest) = (bind-eq-some_iff (matrix_named o d) (λ E. map (λ Es. E ∷ Es) (matrices_named o ds))).0 e in
      let (Es, others, same) = (map-eq-some_iff (λ Es. E ∷ Es) (matrices_named o ds)).0 rest in
      ⊎_elim
      (λ (p : D ≡ E). rw p (matrix_passing d E first))
      (matrices_passing ds Es others D)
      (Memᴰ.cases_cons (subst (Memᴰ D) (sym same) m))

  generator_kind : (g : Ingredient) (G : Generator) → Known g → as_generator g ≡ some G → Sound (field_step G)
  unfolding as_generator
  generator_kind (table rows levels entries) G known e = absurd (none-ne-some G e)
  generator_kind (matrix rows columns p entries) G known e = absurd (none-ne-some G e)
  generator_kind (generator t s widths entries) G known e =
      subst (λ H. Sound (field_step H)) (some-injective _ G e) (known_generator t s widths entries known)

  -- FIELD of a generator that is named is sound
  pub generator_sound : (i : ℕ) (G : Generator) → generator_named o i ≡ some G → Sound (field_step G)
  unfolding generator_named
  generator_sound i G e = let (g, known, is) = listed_known as_generator i e in generator_kind g G known is

  -- k of SUM, where it is a table
  pub adjoined_sound : (k : ℕ) (found : Option Table) → adjoined_named o k ≡ some found → (K : Table) → found ≡ some K → Sound K
  unfolding adjoined_named
  adjoined_sound zero found e K f = absurd (none-ne-some K (some-injective none found e ∙ f))
  adjoined_sound (suc k) found e K f =
      let (A, named, same) = (map-eq-some_iff some (table_named o (suc k))).0 e in
      subst Sound (some-injective A K (same ∙ f)) (table_sound (suc k) A named)
