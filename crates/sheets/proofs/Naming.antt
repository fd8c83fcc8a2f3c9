-- The look-ups of question 5 find an ingredient exactly where one exists with the kind wanted.
-- Assumes nothing.
use mathlib.Core.Path.{◌≡◌, refl, sym, ◌∙◌, ap}
use mathlib.Core.Logic.{◌↔◌, ◌⊎◌, inl, inr, ⊎_elim}
use mathlib.Core.List.{List, [], ◌∷◌}
use mathlib.Core.Option.{Option, none, some, map, bind, bind-eq-some_iff, map-eq-some_iff, some-injective, none-ne-some}
use Prim.Native.Nat.{ℕ, zero, suc, ◌+◌, ◌-◌}
use native.Mathlib.Numerals.{add-one}
use native.Mathlib.Omega.{arith}
use lib.ListN.{get_elem?}
use Rattle.finite.specs.First.{◌or_else◌}
use Rattle.counting.specs.Table.{Table}
use Rattle.counting.specs.Matrix.{Matrix}
use Rattle.counting.specs.Generator.{Generator}
use Rattle.house.specs.House.{HouseNumber, house_of, house_table}
use Rattle.house.proofs.Passing.{house_number, number_house}
use Rattle.order.specs.Order.{Ingredient, table, matrix, generator, Step, TAKE, FIELD, SUM, MERGE, SPLIT, CROSS, Order}
use Rattle.step_tables.specs.Sheet.{take_step}
use Rattle.sheets.specs.Ingredients.{as_table, as_matrix, as_generator, listed, table_named, matrix_named, generator_named, matrices_named, adjoined_named}
use Rattle.sheets.specs.Steps.{Operation, sum, split, cross, field_step, opening, operation}
use Rattle.sheets.specs.Naming.{IsIngredient, IsTable, NamesMatrix, NamesGenerator, NamesTable, NamesMatrices, NamesAdjoined, Opens, Does}

module _ (o : Order) where
  -- ---- an ingredient of the list

  -- an ingredient of the kind wanted is found exactly where it stands
  listed_iff : {A : Type 0} (kind : Ingredient → Option A) (i : ℕ) {a : A} → (listed kind o i ≡ some a) ↔ ((g : Ingredient) × IsIngredient o i g × (kind g ≡ some a))
  unfolding listed
  listed_iff kind zero {a} = (
    λ e. absurd (none-ne-some a e),
    λ n. let never : 0 ≡ n.1.place + 1 = n.1.from_one in absurd (omega arith),
  )
  listed_iff kind (suc k) {a} = (
    λ e.
        let (g, stands, is) = (bind-eq-some_iff (get_elem? o.ingredients k) kind).0 e in
        (g, record { place = k; from_one = sym (add-one k); stands = stands }, is),
    λ n.
        let one : suc k ≡ n.1.place + 1 = n.1.from_one in
        let same : n.1.place ≡ k = omega arith in
        (bind-eq-some_iff (get_elem? o.ingredients k) kind).1 (n.0, rw same at n.1.stands, n.2),
  )

  -- an ingredient as a table, a matrix or a generator
  as_table_lem : (i : ℕ) {A : Table} → ((g : Ingredient) × IsIngredient o i g × (as_table g ≡ some A)) ↔ IsTable o i A
  unfolding as_table
  as_table_lem i {A} = (
    λ n. kind n.0 n.1 n.2,
    λ t. (table t.rows t.levels t.entries, t.ingredient, ap some t.same),
  )
    where
      kind : (g : Ingredient) → IsIngredient o i g → as_table g ≡ some A → IsTable o i A
      kind (table rows levels entries) n e =
          record { rows = rows; levels = levels; entries = entries; ingredient = n; same = some-injective _ A e }
      kind (matrix rows columns p entries) n e = absurd (none-ne-some A e)
      kind (generator t s widths entries) n e = absurd (none-ne-some A e)

  pub matrix_iff : (i : ℕ) {D : Matrix} → (matrix_named o i ≡ some D) ↔ NamesMatrix o i D
  unfolding matrix_named as_matrix
  matrix_iff i {D} = (
    λ e. let n = (listed_iff as_matrix i).0 e in kind n.0 n.1 n.2,
    λ t. (listed_iff as_matrix i).1 (matrix t.rows t.columns t.modulus t.entries, t.ingredient, ap some t.same),
  )
    where
      kind : (g : Ingredient) → IsIngredient o i g → as_matrix g ≡ some D → NamesMatrix o i D
      kind (table rows levels entries) n e = absurd (none-ne-some D e)
      kind (matrix rows columns p entries) n e =
          record { rows = rows; columns = columns; modulus = p; entries = entries; ingredient = n; same = some-injective _ D e }
      kind (generator t s widths entries) n e = absurd (none-ne-some D e)

  pub generator_iff : (i : ℕ) {G : Generator} → (generator_named o i ≡ some G) ↔ NamesGenerator o i G
  unfolding generator_named as_generator
  generator_iff i {G} = (
    λ e. let n = (listed_iff as_generator i).0 e in kind n.0 n.1 n.2,
    λ t. (listed_iff as_generator i).1 (generator t.coordinates t.size t.widths t.entries, t.ingredient, ap some t.same),
  )
    where
      kind : (g : Ingredient) → IsIngredient o i g → as_generator g ≡ some G → NamesGenerator o i G
      kind (table rows levels entries) n e = absurd (none-ne-some G e)
      kind (matrix rows columns p entries) n e = absurd (none-ne-some G e)
      kind (generator t s widths entries) n e =
          record { coordinates = t; size = s; widths = widths; entries = entries; ingredient = n; same = some-injective _ G e }

  -- ---- a table by its number

  pub table_iff : (i : ℕ) {A : Table} → (table_named o i ≡ some A) ↔ NamesTable o i A
  unfolding table_named
  table_iff i {A} = (λ e. found (house_table i) refl e, ⊎_elim house own)
    where
      -- a number with no house table is no house number
      no_house : house_table i ≡ none → HouseNumber i → ⊥
      no_house e h = none-ne-some _ (sym e ∙ number_house i h)

      found : (h : Option Table) → house_table i ≡ h → (h or_else listed as_table o i) ≡ some A → NamesTable o i A
      found none is e = inr (no_house is, (as_table_lem i).0 ((listed_iff as_table i).0 e))
      found (some H) is e = inl (house_number i A (is ∙ e))

      house : HouseNumber i × (house_of i ≡ A) → (house_table i or_else listed as_table o i) ≡ some A
      house n = rw (number_house i n.0) (ap some n.1)

      own : (HouseNumber i → ⊥) × IsTable o i A → (house_table i or_else listed as_table o i) ≡ some A
      own n = absent (house_table i) refl
        where
          absent : (h : Option Table) → house_table i ≡ h → (h or_else listed as_table o i) ≡ some A
          absent none is = (listed_iff as_table i).1 ((as_table_lem i).1 n.1)
          absent (some H) is = absurd (n.0 (house_number i H is).0)

  -- ---- what SUM names

  -- the matrices that some numbers name, with one before them
  abbrev matrices_after : List ℕ → Matrix → Option (List Matrix)
  matrices_after ds D = map (λ Es. D ∷ Es) (matrices_named o ds)

  matrices_iff : (ds : List ℕ) (Ds : List Matrix) → (matrices_named o ds ≡ some Ds) ↔ NamesMatrices o ds Ds
  unfolding matrices_named NamesMatrices
  matrices_iff [] [] = (λ e. tt, λ t. refl)
  matrices_iff [] (D ∷ Ds) = (λ e. let z : ◌≡◌ {A = ℕ} 0 1 = cc in absurd (omega arith), λ n. absurd n)
  matrices_iff (d ∷ ds) [] = (
    λ e.
        let (D, first, more) = (bind-eq-some_iff (matrix_named o d) (matrices_after ds)).0 e in
        let (Es, others, same) = (map-eq-some_iff (λ Es. D ∷ Es) (matrices_named o ds)).0 more in
        let z : ◌≡◌ {A = ℕ} 0 1 = cc in absurd (omega arith),
    λ n. absurd n,
  )
  matrices_iff (d ∷ ds) (D ∷ Ds) = (
    λ e.
        let (E, first, more) = (bind-eq-some_iff (matrix_named o d) (matrices_after ds)).0 e in
        let (Es, others, same) = (map-eq-some_iff (λ Es. E ∷ Es) (matrices_named o ds)).0 more in
        let head : E ≡ D = cc in
        let tail : Es ≡ Ds = cc in
        ((matrix_iff d).0 (first ∙ ap some head), (matrices_iff ds Ds).0 (others ∙ ap some tail)),
    λ n.
        (bind-eq-some_iff (matrix_named o d) (matrices_after ds)).1
        (D, (matrix_iff d).1 n.0, ap (map (λ Es. D ∷ Es)) ((matrices_iff ds Ds).1 n.1)),
  )

  -- no table has the number 0
  zero_unnamed : {A : Table} → NamesTable o 0 A → ⊥
  zero_unnamed n = ⊎_elim (λ h. absurd (omega (arith, h.0.low))) (λ t. let never : 0 ≡ t.1.ingredient.place + 1 = t.1.ingredient.from_one in absurd (omega arith)) n

  adjoined_iff : (k : ℕ) (found : Option Table) → (adjoined_named o k ≡ some found) ↔ NamesAdjoined o k found
  unfolding adjoined_named NamesAdjoined
  adjoined_iff zero none = (λ e. refl, λ z. refl)
  adjoined_iff zero (some K) = (λ e. absurd (none-ne-some K (some-injective none (some K) e)), λ n. absurd (zero_unnamed n))
  adjoined_iff (suc k) none = (
    λ e. let (A, named, same) = (map-eq-some_iff some (table_named o (suc k))).0 e in absurd (none-ne-some A (sym same)),
    λ z. absurd (omega arith),
  )
  adjoined_iff (suc k) (some K) = (
    λ e. let (A, named, same) = (map-eq-some_iff some (table_named o (suc k))).0 e in (table_iff (suc k)).0 (named ∙ ap some (some-injective A K same)),
    λ n. (map-eq-some_iff some (table_named o (suc k))).1 (K, (table_iff (suc k)).1 n, refl),
  )

  -- ---- the steps

  -- a first step leaves S exactly where it is allowed and S is its sheet
  pub opens_iff : (step : Step) {S : Table} → (opening o step ≡ some S) ↔ Opens o step S
  unfolding opening Opens
  opens_iff (TAKE i) {S} = (
    λ e. let (A, named, same) = (map-eq-some_iff take_step (table_named o i)).0 e in (A, (table_iff i).0 named, same),
    λ n. (map-eq-some_iff take_step (table_named o i)).1 (n.0, (table_iff i).1 n.1, n.2),
  )
  opens_iff (FIELD i) {S} = (
    λ e. let (G, named, same) = (map-eq-some_iff field_step (generator_named o i)).0 e in (G, (generator_iff i).0 named, same),
    λ n. (map-eq-some_iff field_step (generator_named o i)).1 (n.0, (generator_iff i).1 n.1, n.2),
  )
  opens_iff (SUM ds k) {S} = (λ e. none-ne-some S e, λ n. absurd n)
  opens_iff (MERGE p cs) {S} = (λ e. none-ne-some S e, λ n. absurd n)
  opens_iff (SPLIT c i) {S} = (λ e. none-ne-some S e, λ n. absurd n)
  opens_iff (CROSS ds k h) {S} = (λ e. none-ne-some S e, λ n. absurd n)

  -- a later step does f exactly where it is allowed and f is what it does
  pub does_iff : (step : Step) {f : Operation} → (operation o step ≡ some f) ↔ Does o step f
  unfolding operation Does
  does_iff (TAKE i) {f} = (λ e. none-ne-some f e, λ n. absurd n)
  does_iff (FIELD i) {f} = (λ e. none-ne-some f e, λ n. absurd n)
  does_iff (SUM ds k) {f} =
      let both = bind-eq-some_iff (matrices_named o ds) (λ Ds. map (sum Ds) (adjoined_named o k)) {x = f} in (
        λ e.
            let (Ds, named, rest) = both.0 e in
            let (found, adjoined, same) = (map-eq-some_iff (sum Ds) (adjoined_named o k)).0 rest in
            (Ds, found, (matrices_iff ds Ds).0 named, (adjoined_iff k found).0 adjoined, same),
        λ n.
            both.1 (n.0, (matrices_iff ds n.0).1 n.2, (map-eq-some_iff (sum n.0) (adjoined_named o k)).1 (n.1, (adjoined_iff k n.1).1 n.3, n.4)),
      )
  does_iff (MERGE p cs) {f} = (λ e. some-injective _ f e, λ n. ap some n)
  does_iff (SPLIT c i) {f} = (
    λ e. let (A, named, same) = (map-eq-some_iff (split (c - 1)) (table_named o i)).0 e in (A, (table_iff i).0 named, same),
    λ n. (map-eq-some_iff (split (c - 1)) (table_named o i)).1 (n.0, (table_iff i).1 n.1, n.2),
  )
  does_iff (CROSS ds k h) {f} = (
    λ e.
        let (Ds, named, rest) = (bind-eq-some_iff (matrices_named o ds) _).0 e in
        let (K, adjoined, last) = (bind-eq-some_iff (adjoined_named o k) _).0 rest in
        let (H, other, same) = (map-eq-some_iff (cross ds Ds K) (table_named o h)).0 last in
        (Ds, K, H, (matrices_iff ds Ds).0 named, (adjoined_iff k K).0 adjoined, (table_iff h).0 other, same),
    λ n.
        let (Ds, K, H, named, adjoined, other, same) = n in
        (bind-eq-some_iff (matrices_named o ds) _).1 (
          Ds,
          (matrices_iff ds Ds).1 named,
          (bind-eq-some_iff (adjoined_named o k) _).1
              (K, (adjoined_iff k K).1 adjoined, (map-eq-some_iff (cross ds Ds K) (table_named o h)).1 (H, (table_iff h).1 other, same)),
        ),
  )
