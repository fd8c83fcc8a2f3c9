-- SUM leaves an even sheet, for any abelian groups on the levels. For a fixed row adding permutes the levels, so columns of different sheet columns,
-- or of k, keep their counts; for two columns of one sheet column the difference matrix counts the rows that ask one level of it.
-- Assumes nothing.
use mathlib.Core.Path.{◌≡◌, refl, sym, ◌∙◌, ap, ap₂, subst}
use mathlib.Core.Logic.{◌≢◌, ⊎_elim, by_cases}
use mathlib.Core.Bool.{Bool, true, false, cond, ◌&&◌, and-false, and_comm}
use mathlib.Core.List.Memᴰ
use mathlib.Core.List.{List, [], ◌∷◌, map, flat_map, Memᴰ}
use mathlib.Core.Option.{Option, none, some, none-ne-some, some-injective}
use Prim.Native.Nat.{ℕ, zero, suc, ◌+◌, ◌*◌, ◌/◌, ◌%◌, ◌≤◌, ◌<◌}
use native.Mathlib.Nat.{mul-one, mul-zero, mul_comm, mul_assoc, mul_left_comm, mod-lt, div-lt_iff_lt-mul, zero-lt-suc, not-suc-le-zero}
use native.Mathlib.Decide.{ℕ_discrete, dec_lt}
use native.Mathlib.Omega.{arith}
use borrow.Author.Tests.{eq-eqb, ne_eqb, eqb-true, eqb-false}
use lib.Arith.{digits_div, digits_mod}
use lib.Dec.{eqb}
use lib.ListN.{length, length-append, length-map}
use Rattle.finite.specs.Sum.{sum, count, bit}
use Rattle.finite.specs.Lists.{from}
use Rattle.finite.proofs.Sums.{sum_ext}
use Rattle.finite.proofs.Counts.{count_ext, count_and, count_product, count_exchange, sum_passing}
use Rattle.finite.proofs.Lists.{length_from}
use Rattle.galois.specs.Laws.{AbelianGroup}
use Rattle.galois.proofs.Levels.{level_group}
use Rattle.counting.specs.Matrix.{Matrix, MatrixInRange}
use Rattle.counting.specs.Table.{Table, columns, levels_of, Setting, shows, times, combinations, Apart, Settings, InRange, Even}
use Rattle.step_tables.specs.Lists.{Distinct}
use Rattle.step_tables.specs.Sheet.{from_sources, OrthogonalArray, AllLevels}
use Rattle.step_tables.specs.Sum.{level_sum, PassingMatrix, modulus_of, rows_of, serving, adjoined_table, SumSource, summed, adjoined, summed_with, summed_columns, sum_place, sum_sources, sum_levels, sum_entry, sum_value, sum_step, SumFits}
use Rattle.step_tables.proofs.Lists.{length_flat_map, mem_map, mem_flat_map, mem_from, distinct_append, distinct_map, distinct_flat_map, distinct_from}
use Rattle.step_tables.proofs.Columns.{Choice, ◌at◌, chosen, choices, Allowed, EvenChoices, swap_choices, no_settings, Sources, from_array, from_levels}
use Rattle.step_tables.proofs.Separate.{Place, left, right, Differ, Placed, levels_at, cell_at, Placing, as_is, lefts, rights, length_separate, settings_separate, combinations_separate, shows_separate}
use Rattle.step_tables.proofs.Groups.{GroupDifferences, less, less_below, sum_is, same_less, level_differences}

-- the matrix that serves s levels is one of the list, and s is its p
pub serving_mem : (Ds : List Matrix) (s : ℕ) (D : Matrix) → serving Ds s ≡ some D → Memᴰ D Ds × (D.modulus ≡ s)
unfolding serving
serving_mem [] s D e = absurd (none-ne-some D e)
serving_mem (E ∷ Ds) s D e = pick (λ f. serving_mem Ds s D f) (eqb E.modulus s) refl e
  where
    pick : (serving Ds s ≡ some D → Memᴰ D Ds × (D.modulus ≡ s)) → (b : Bool) → eqb E.modulus s ≡ b
        → cond b (some E) (serving Ds s) ≡ some D → Memᴰ D (E ∷ Ds) × (D.modulus ≡ s)
    pick later true t f =
        let same : E ≡ D = some-injective E D f in
        (Memᴰ.head (sym same), ap (λ X. X.modulus) (sym same) ∙ eqb-true E.modulus s t)
    pick later false t f = let r = later f in (Memᴰ.tail r.0, r.1)

-- a p that one of the matrices has is served
pub serving_some : (Ds : List Matrix) (s : ℕ) → Memᴰ s (map modulus_of Ds) → (D : Matrix) × (serving Ds s ≡ some D) × Memᴰ D Ds
unfolding serving
serving_some [] s m = absurd (Memᴰ.not-nil m)
serving_some (E ∷ Ds) s m = pick (λ l. serving_some Ds s l) (eqb E.modulus s) refl
  where
    pick : (Memᴰ s (map modulus_of Ds) → (D : Matrix) × (serving Ds s ≡ some D) × Memᴰ D Ds) → (b : Bool) → eqb E.modulus s ≡ b
        → (D : Matrix) × (cond b (some E) (serving Ds s) ≡ some D) × Memᴰ D (E ∷ Ds)
    pick later true t = (E, refl, Memᴰ.head refl)
    pick later false t =
        let other = ⊎_elim (λ (e : s ≡ E.modulus). absurd (eqb-false E.modulus s t (sym e))) (λ l. l) (Memᴰ.cases_cons m) in
        let (D, is, among) = later other in
        (D, is, Memᴰ.tail among)

abbrev place_of : SumSource → Place
place_of (summed j D c) = left j
place_of (adjoined c) = right c

-- the number of the column in its matrix or in k
abbrev number_of : SumSource → ℕ
number_of (summed j D c) = c
number_of (adjoined c) = c

-- the sheet column that the source comes from, and for k's one past the last
abbrev origin_of : ℕ → SumSource → ℕ
origin_of m (summed j D c) = j
origin_of m (adjoined c) = m

-- what a list of matrices serves, and k's columns
abbrev pub Comes : List Matrix → Table → Table → SumSource → Type 0
Comes Ds K S (summed j D c) = (j < columns S) × (serving Ds (levels_of S j) ≡ some D) × (c < D.columns)
Comes Ds K S (adjoined c) = c < columns K

module _ (Ds : List Matrix) (K S : Table) where
  -- what sheet column j brings comes from the matrix that serves it
  in_place : (j : ℕ) (a : SumSource) (o : Option Matrix) → serving Ds (levels_of S j) ≡ o → Memᴰ a (summed_with j o)
      → (j < columns S → Comes Ds K S a) × (origin_of (columns S) a ≡ j)
  unfolding summed_with
  in_place j a none e m = absurd (Memᴰ.not-nil m)
  in_place j a (some D) e m =
      let s = mem_map (summed j D) (from 0 D.columns) m in
      let b = mem_from 0 D.columns s.1 in
      (λ h. rw s.2 (h, e, omega arith), rw s.2 refl)

  adjoined_comes : (a : SumSource) → Memᴰ a (map adjoined (from 0 (columns K))) → Comes Ds K S a × (origin_of (columns S) a ≡ columns S)
  adjoined_comes a m =
      let s = mem_map adjoined (from 0 (columns K)) m in
      let b = mem_from 0 (columns K) s.1 in
      (rw s.2 (omega arith), rw s.2 refl)

  place_distinct : (j : ℕ) (o : Option Matrix) → Distinct (summed_with j o)
  unfolding summed_with
  place_distinct j none = tt
  place_distinct j (some D) = distinct_map (summed j D) (λ x y e. ap number_of e) (from 0 D.columns) (distinct_from 0 D.columns)

  -- a source of the sheet's columns, from the column that it tells
  summed_comes : (a : SumSource) → Memᴰ a (flat_map (sum_place Ds S) (from 0 (columns S)))
      → Comes Ds K S a × (origin_of (columns S) a < columns S)
  unfolding sum_place
  summed_comes a m =
      let s = mem_flat_map (sum_place Ds S) (from 0 (columns S)) m in
      let b = mem_from 0 (columns S) s.1 in
      let i = in_place s.0 a (serving Ds (levels_of S s.0)) refl s.2 in
      (i.0 (omega arith), rw i.1 (omega arith))

  pub sources_come : (a : SumSource) → Memᴰ a (sum_sources Ds K S) → Comes Ds K S a
  unfolding sum_sources
  sources_come a m =
      ⊎_elim
      (λ n. (summed_comes a n).0)
      (λ n. (adjoined_comes a n).0)
      (Memᴰ.append_cases (flat_map (sum_place Ds S) (from 0 (columns S))) m)

  pub sources_distinct : Distinct (sum_sources Ds K S)
  unfolding sum_sources sum_place
  sources_distinct =
      distinct_append
      (flat_map (sum_place Ds S) (from 0 (columns S)))
      (map adjoined (from 0 (columns K)))
      (distinct_flat_map
      (sum_place Ds S)
      (origin_of (columns S))
      (λ j. place_distinct j (serving Ds (levels_of S j)))
      (λ j a m. (in_place j a (serving Ds (levels_of S j)) refl m).1)
      (from 0 (columns S))
      (distinct_from 0 (columns S)))
      (distinct_map adjoined (λ x y e. ap number_of e) (from 0 (columns K)) (distinct_from 0 (columns K)))
      (λ a m n. let l = (summed_comes a m).1 in let e = (adjoined_comes a n).1 in omega arith)

  given : Sources (Comes Ds K S) (sum_sources Ds K S)
  given = record { past = adjoined 0; distinct = sources_distinct; allowed = sources_come }

module _ (plus : ℕ → ℕ → ℕ → ℕ) (Ds : List Matrix) (K S : Table) where
  place_length : (j : ℕ) (o : Option Matrix) → length (summed_with j o) ≡ summed_columns o
  unfolding summed_with summed_columns
  place_length j none = refl
  place_length j (some D) = length-map (from 0 D.columns) (summed j D) ∙ length_from 0 D.columns

  -- for each column of the sheet those of its matrix, and then k's
  pub sum_columns : columns (sum_step plus Ds K S) ≡ sum (columns S) (λ j. summed_columns (serving Ds (levels_of S j))) + columns K
  unfolding sum_step from_sources sum_sources sum_place
  sum_columns =
      length-map (sum_sources Ds K S) (sum_levels K)
      ∙ length-append (flat_map (sum_place Ds S) (from 0 (columns S))) (map adjoined (from 0 (columns K)))
      ∙ ap₂
      ◌+◌
      (length_flat_map (sum_place Ds S) (columns S)
      ∙ sum_ext (columns S) (λ j h. place_length j (serving Ds (levels_of S j))))
      (length-map (from 0 (columns K)) adjoined ∙ length_from 0 (columns K))

-- a column of k has k's levels, and any other those of the column that it comes from
pub source_levels : (Ds : List Matrix) (K S : Table) (Q : ℕ → Type 0) → AllLevels Q K → AllLevels Q S → (a : SumSource) → Comes Ds K S a → Q (sum_levels K a)
unfolding AllLevels sum_levels
source_levels Ds K S Q table sheet (summed j D c) p = rw (serving_mem Ds (levels_of S j) D p.1).1 (sheet j p.0)
source_levels Ds K S Q table sheet (adjoined c) p = table c p

pub sum_levels_lem : (plus : ℕ → ℕ → ℕ → ℕ) (Ds : List Matrix) (K S : Table) (Q : ℕ → Type 0) → AllLevels Q K → AllLevels Q S
    → AllLevels Q (sum_step plus Ds K S)
unfolding sum_step
sum_levels_lem plus Ds K S Q table sheet =
    from_levels
    (given Ds K S)
    (sum_levels K)
    (sum_value plus (rows_of Ds) K S)
    (S.runs * rows_of Ds)
    Q
    (source_levels Ds K S Q table sheet)

-- what has a number below it has no factor 0
pub factor_positive : (n m : ℕ) {r : ℕ} → r < n * m → 0 < m
factor_positive n zero h = absurd (not-suc-le-zero (rw mul-zero at h))
factor_positive n (suc m) h = zero-lt-suc m

-- old run i and matrix row y make run i × M + y: a count over the new runs, by old run
pub count_runs : (n m : ℕ) (f : ℕ → ℕ → Bool) → count (n * m) (λ r. f (r / m) (r % m)) ≡ sum n (λ i. count m (f i))
count_runs n m f =
    count_product n m (λ r. f (r / m) (r % m))
    ∙ sum_ext n (λ i h. count_ext m (λ y k. ap₂ f (digits_div i k) (digits_mod i k)))

-- x is a and b where a is b and x is a
both_equal : (x a b : ℕ) → (eqb x a && (eqb x b && true)) ≡ (eqb a b && (eqb x a && true))
both_equal x a b =
    by_cases (ℕ_discrete x a)
    (λ e. rw (eq-eqb x a e, e))
    (λ n. rw (ne_eqb x a n) (sym (and-false (eqb a b))))

module _ (plus : ℕ → ℕ → ℕ → ℕ) (group : (p : ℕ) → 0 < p → AbelianGroup p (plus p)) (Ds : List Matrix) (K S : Table) (fits : SumFits Ds K S)
    (below : (D : Matrix) → Memᴰ D Ds → MatrixInRange D) (range : InRange S) where
  -- the level of the sheet that row y takes to level v
  abbrev shifted : ℕ → SumSource → ℕ → ℕ
  shifted y (summed j D c) v = less plus group D.modulus v (D.entry y c)
  shifted y (adjoined c) v = v

  -- a matrix that serves column j: its p, its entries and the column's levels
  pub entry_below : (j c y : ℕ) (D : Matrix) → Comes Ds K S (summed j D c) → y < rows_of Ds → D.entry y c < D.modulus
  unfolding MatrixInRange
  entry_below j c y D p h =
      let m = (serving_mem Ds (levels_of S j) D p.1).0 in
      below D m y c (rw (fits.equal_rows D m) h) p.2

  pub level_below : (j c i : ℕ) (D : Matrix) → Comes Ds K S (summed j D c) → i < S.runs → S.cell i j < D.modulus
  unfolding InRange
  level_below j c i D p h = rw (serving_mem Ds (levels_of S j) D p.1).1 (range i j h p.0)

  comes_placed : (a : SumSource) → Comes Ds K S a → Placed S K (place_of a)
  comes_placed (summed j D c) p = p.0
  comes_placed (adjoined c) p = p

  comes_levels : (a : SumSource) → Comes Ds K S a → sum_levels K a ≡ levels_at S K (place_of a)
  unfolding sum_levels
  comes_levels (summed j D c) p = (serving_mem Ds (levels_of S j) D p.1).1
  comes_levels (adjoined c) p = refl

  placing : (level : SumSource → ℕ → ℕ) → ((a : SumSource) (v : ℕ) → Comes Ds K S a → v < sum_levels K a → level a v < sum_levels K a)
      → Placing S K (Comes Ds K S) (λ a b. Differ (place_of a) (place_of b)) (sum_levels K) place_of level
  placing level level_ok = record { placed = comes_placed; as_many = comes_levels; below = level_ok; differ = λ a b n. n }

  shifted_below : (y : ℕ) → y < rows_of Ds → (a : SumSource) (v : ℕ) → Comes Ds K S a → v < sum_levels K a → shifted y a v < sum_levels K a
  unfolding sum_levels
  shifted_below y h (summed j D c) v p l = less_below plus group D.modulus l (entry_below j c y D p h)
  shifted_below y h (adjoined c) v p l = l

  -- an entry of the next sheet is v where the sheet's is the shifted level
  entry_is : (i y : ℕ) → i < S.runs → y < rows_of Ds → (a : SumSource) (v : ℕ) → Comes Ds K S a → v < sum_levels K a
      → eqb (sum_entry plus K S i y a) v ≡ eqb (cell_at S K i y (place_of a)) (shifted y a v)
  unfolding sum_levels sum_entry
  entry_is i y h k (summed j D c) v p l = sum_is plus group D.modulus (level_below j c i D p h) (entry_below j c y D p k) l
  entry_is i y h k (adjoined c) v p l = refl

  -- a count over the runs of the next sheet, row by row
  count_rows : (xs : List (Choice SumSource))
      → count (S.runs * rows_of Ds) (λ r. chosen (sum_value plus (rows_of Ds) K S r) xs)
      ≡ sum (rows_of Ds) (λ y. count S.runs (λ i. chosen (sum_entry plus K S i y) xs))
  unfolding sum_value
  count_rows xs =
      count_runs S.runs (rows_of Ds) (λ i y. chosen (sum_entry plus K S i y) xs)
      ∙ count_exchange S.runs (rows_of Ds) (λ i y. chosen (sum_entry plus K S i y) xs)

  rights_shifted : (y : ℕ) (xs : List (Choice SumSource)) → rights place_of (shifted y) xs ≡ rights place_of as_is xs
  rights_shifted y [] = refl
  rights_shifted y ((summed j D c at v) ∷ xs) = rights_shifted y xs
  rights_shifted y ((adjoined c at v) ∷ xs) = ap (λ ys. record { column = c; level = v } ∷ ys) (rights_shifted y xs)

  combinations_shifted : (y : ℕ) (xs : List (Choice SumSource))
      → combinations S (lefts place_of (shifted y) xs) ≡ combinations S (lefts place_of as_is xs)
  unfolding combinations
  combinations_shifted y [] = refl
  combinations_shifted y ((summed j D c at v) ∷ xs) = ap (λ n. levels_of S j * n) (combinations_shifted y xs)
  combinations_shifted y ((adjoined c at v) ∷ xs) = combinations_shifted y xs

  -- Columns of different sheet columns and of k: for every row the sheet's runs have their share, and so have k's. For every strength.
  module _ (g : ℕ) (even : Even g S) (even_adjoined : Even g K)
      (xs : List (Choice SumSource)) (few : length xs ≤ g) (ok : Allowed (Comes Ds K S) (λ a b. Differ (place_of a) (place_of b)) (sum_levels K) xs) where
    -- the settings of k among the choices
    adjoined_ones : List Setting
    adjoined_ones = rights place_of as_is xs

    row_count : (y : ℕ) → y < rows_of Ds
        → count S.runs (λ i. chosen (sum_entry plus K S i y) xs) ≡ bit (shows K adjoined_ones y) * times S (lefts place_of (shifted y) xs)
    unfolding times adjoined_ones
    row_count y h =
        count_ext S.runs (λ i l.
        shows_separate (placing (shifted y) (shifted_below y h)) (sum_entry plus K S i y) i y (entry_is i y l h) xs ok
        ∙ ap (λ zs. shows S (lefts place_of (shifted y) xs) i && shows K zs y) (rights_shifted y xs)
        ∙ and_comm (shows S (lefts place_of (shifted y) xs) i) (shows K adjoined_ones y))
        ∙ count_and S.runs (shows K adjoined_ones y) (shows S (lefts place_of (shifted y) xs))

    row_share : (y : ℕ) → y < rows_of Ds → combinations S (lefts place_of as_is xs) * times S (lefts place_of (shifted y) xs) ≡ S.runs
    unfolding Even
    row_share y h =
        ap (λ n. n * times S (lefts place_of (shifted y) xs)) (sym (combinations_shifted y xs))
        ∙ even
        (lefts place_of (shifted y) xs)
        (omega (arith, length_separate place_of (shifted y) xs))
        (settings_separate (placing (shifted y) (shifted_below y h)) xs ok).0

    adjoined_share : combinations K adjoined_ones * count (rows_of Ds) (shows K adjoined_ones) ≡ rows_of Ds
    unfolding Even times adjoined_ones
    adjoined_share =
        ap (λ n. combinations K adjoined_ones * count n (shows K adjoined_ones)) (sym fits.adjoined_runs)
        ∙ even_adjoined
        adjoined_ones
        (omega (arith, length_separate place_of as_is xs))
        (settings_separate (placing as_is (λ a v p l. l)) xs ok).1
        ∙ fits.adjoined_runs

    apart_even : choices (sum_levels K) xs * count (S.runs * rows_of Ds) (λ r. chosen (sum_value plus (rows_of Ds) K S r) xs) ≡ S.runs * rows_of Ds
    unfolding adjoined_ones
    apart_even =
        ap₂
        ◌*◌
        (combinations_separate (placing as_is (λ a v p l. l)) xs ok
        ∙ mul_comm (combinations S (lefts place_of as_is xs)) (combinations K adjoined_ones))
        (count_rows xs ∙ sum_ext (rows_of Ds) row_count)
        ∙ mul_assoc (combinations K adjoined_ones) (combinations S (lefts place_of as_is xs))
        (sum (rows_of Ds) (λ y. bit (shows K adjoined_ones y) * times S (lefts place_of (shifted y) xs)))
        ∙ ap
        (λ n. combinations K adjoined_ones * n)
        (sum_passing
        (rows_of Ds)
        (combinations S (lefts place_of as_is xs))
        S.runs
        (shows K adjoined_ones)
        (λ y. times S (lefts place_of (shifted y) xs))
        row_share)
        ∙ mul_left_comm (combinations K adjoined_ones) S.runs (count (rows_of Ds) (shows K adjoined_ones))
        ∙ ap (λ n. S.runs * n) adjoined_share

  -- Two columns c and d of one sheet column j: the row gives the right difference, and then the sheet's column has one level.
  module _ (even : Even 2 S) (j : ℕ) (D : Matrix) (differences : GroupDifferences (plus D.modulus) D) (c d v w : ℕ)
      (before : c < d) (comes_first : Comes Ds K S (summed j D c)) (comes_second : Comes Ds K S (summed j D d))
      (first : v < D.modulus) (second : w < D.modulus) where
    serves : Memᴰ D Ds × (D.modulus ≡ levels_of S j)
    serves = serving_mem Ds (levels_of S j) D comes_first.1

    -- row y asks one level of the sheet's column
    agrees : ℕ → Bool
    agrees y = eqb (shifted y (summed j D c) v) (shifted y (summed j D d) w)

    -- and that is the level
    asked : ℕ → List Setting
    asked y = record { column = j; level = shifted y (summed j D c) v } ∷ []

    pair : List (Choice SumSource)
    pair = (summed j D c at v) ∷ (summed j D d at w) ∷ []

    pair_row : (y : ℕ) → y < rows_of Ds → count S.runs (λ i. chosen (sum_entry plus K S i y) pair) ≡ bit (agrees y) * times S (asked y)
    unfolding times shows agrees asked pair sum_levels
    pair_row y h =
        count_ext S.runs (λ i l.
        ap₂
        (λ p q. p && (q && true))
        (entry_is i y l h (summed j D c) v comes_first first)
        (entry_is i y l h (summed j D d) w comes_second second)
        ∙ both_equal (S.cell i j) (shifted y (summed j D c) v) (shifted y (summed j D d) w))
        ∙ count_and S.runs (agrees y) (shows S (asked y))

    asked_share : (y : ℕ) → y < rows_of Ds → D.modulus * times S (asked y) ≡ S.runs
    unfolding Even combinations Settings Apart asked sum_levels
    asked_share y h =
        ap (λ n. n * times S (asked y)) (serves.1 ∙ sym (mul-one (levels_of S j)))
        ∙ even
        (asked y)
        (omega arith)
        (comes_first.0, subst (λ n. shifted y (summed j D c) v < n) serves.1 (shifted_below y h (summed j D c) v comes_first first), tt, tt)

    agrees_share : D.modulus * count (rows_of Ds) agrees ≡ rows_of Ds
    unfolding GroupDifferences agrees
    agrees_share =
        ap
        (λ n. D.modulus * n)
        (count_ext (rows_of Ds) (λ y h.
        same_less plus group D.modulus first second (entry_below j c y D comes_first h) (entry_below j d y D comes_second h)))
        ∙ subst
        (λ n. D.modulus * count n (λ y. eqb (plus D.modulus (less plus group D.modulus v w) (D.entry y d)) (D.entry y c)) ≡ n)
        (fits.equal_rows D serves.0)
        (differences c d (less plus group D.modulus v w) before comes_second.2 (less_below plus group D.modulus first second))

    pair_even : choices (sum_levels K) pair * count (S.runs * rows_of Ds) (λ r. chosen (sum_value plus (rows_of Ds) K S r) pair) ≡ S.runs * rows_of Ds
    unfolding sum_levels pair
    pair_even =
        ap₂ (λ n m. D.modulus * n * m) (mul-one D.modulus) (count_rows pair ∙ sum_ext (rows_of Ds) pair_row)
        ∙ mul_assoc D.modulus D.modulus (sum (rows_of Ds) (λ y. bit (agrees y) * times S (asked y)))
        ∙ ap (λ n. D.modulus * n) (sum_passing (rows_of Ds) D.modulus S.runs agrees (λ y. times S (asked y)) asked_share)
        ∙ mul_left_comm D.modulus S.runs (count (rows_of Ds) agrees)
        ∙ ap (λ n. S.runs * n) agrees_share

  module _ (even : Even 2 S) (even_adjoined : Even 2 K) (differences : (D : Matrix) → Memᴰ D Ds → GroupDifferences (plus D.modulus) D) where
    -- two choices have their share of the runs
    abbrev Two : SumSource → ℕ → SumSource → ℕ → Type 0
    Two a v b w =
        choices (sum_levels K) ((a at v) ∷ (b at w) ∷ [])
        * count (S.runs * rows_of Ds) (λ r. chosen (sum_value plus (rows_of Ds) K S r) ((a at v) ∷ (b at w) ∷ []))
        ≡ S.runs * rows_of Ds

    one_column : (j : ℕ) (D : Matrix) (c d v w : ℕ) → c ≢ d → Comes Ds K S (summed j D c) → Comes Ds K S (summed j D d)
        → v < D.modulus → w < D.modulus → Two (summed j D c) v (summed j D d) w
    unfolding pair
    one_column j D c d v w n p q h k =
        let δ : GroupDifferences (plus D.modulus) D = differences D (serving_mem Ds (levels_of S j) D p.1).0 in
        by_cases (dec_lt c d)
        (λ l. pair_even even j D δ c d v w l p q h k)
        (λ m.
        swap_choices
        (sum_levels K)
        (sum_value plus (rows_of Ds) K S)
        (S.runs * rows_of Ds)
        (summed j D c)
        (summed j D d)
        v
        w
        (pair_even even j D δ d c w v (omega arith) q p k h))

    two_apart : (a b : SumSource) (v w : ℕ) → Comes Ds K S a → Comes Ds K S b → v < sum_levels K a → w < sum_levels K b
        → Differ (place_of a) (place_of b) → Two a v b w
    two_apart a b v w p q h k n =
        apart_even 2 even even_adjoined ((a at v) ∷ (b at w) ∷ []) (omega arith) (p, h, (n, tt), (q, k, tt, tt))

    two_even : (a b : SumSource) (v w : ℕ) → Comes Ds K S a → Comes Ds K S b → v < sum_levels K a → w < sum_levels K b → a ≢ b → Two a v b w
    unfolding sum_levels
    two_even (summed j D c) (summed l E d) v w p q h k n =
        by_cases (ℕ_discrete j l)
        (λ e.
        let same : D ≡ E = some-injective D E (sym p.1 ∙ ap (λ x. serving Ds (levels_of S x)) e ∙ q.1) in
        subst
        (λ b. Comes Ds K S b → w < sum_levels K b → summed j D c ≢ b → Two (summed j D c) v b w)
        (ap₂ (λ x X. summed x X d) e same)
        (λ q' k' n'. one_column j D c d v w (λ f. n' (ap (summed j D) f)) p q' h k')
        q
        k
        n)
        (λ m. two_apart (summed j D c) (summed l E d) v w p q h k m)
    two_even (summed j D c) (adjoined d) v w p q h k n = two_apart (summed j D c) (adjoined d) v w p q h k tt
    two_even (adjoined c) (summed l E d) v w p q h k n = two_apart (adjoined c) (summed l E d) v w p q h k tt
    two_even (adjoined c) (adjoined d) v w p q h k n = two_apart (adjoined c) (adjoined d) v w p q h k (λ e. n (ap adjoined e))

    pub choices_even : EvenChoices (Comes Ds K S) ◌≢◌ (sum_levels K) (sum_value plus (rows_of Ds) K S) (S.runs * rows_of Ds) 2
    choices_even [] h ok = apart_even 2 even even_adjoined [] h tt
    choices_even ((a at v) ∷ []) h ok = apart_even 2 even even_adjoined ((a at v) ∷ []) h (ok.0, ok.1, tt, tt)
    choices_even ((a at v) ∷ (b at w) ∷ []) h ok = two_even a b v w ok.0 ok.3.0 ok.1 ok.3.1 ok.2.0
    choices_even (x ∷ y ∷ z ∷ xs) h ok = absurd (omega arith)

  entry_in_range : InRange K → (i y : ℕ) → i < S.runs → y < rows_of Ds → (a : SumSource) → Comes Ds K S a → sum_entry plus K S i y a < sum_levels K a
  unfolding InRange sum_entry sum_levels
  entry_in_range range_adjoined i y h k (summed j D c) p =
      let l : S.cell i j < D.modulus = level_below j c i D p h in
      (group D.modulus (omega arith)).sums.closed l (entry_below j c y D p k)
  entry_in_range range_adjoined i y h k (adjoined c) p = range_adjoined y c (rw fits.adjoined_runs k) p

  pub value_in_range : InRange K → (r : ℕ) (a : SumSource) → r < S.runs * rows_of Ds → Comes Ds K S a → sum_value plus (rows_of Ds) K S r a < sum_levels K a
  unfolding sum_value
  value_in_range range_adjoined r a h p =
      let pos : 0 < rows_of Ds = factor_positive S.runs (rows_of Ds) h in
      entry_in_range range_adjoined (r / rows_of Ds) (r % rows_of Ds) ((div-lt_iff_lt-mul pos).1 h) (mod-lt r pos) a p

-- SUM with any abelian group on the levels, for matrices whose differences in that group are even
pub group_sum_leaves : (plus : ℕ → ℕ → ℕ → ℕ) → ((p : ℕ) → 0 < p → AbelianGroup p (plus p)) → (Ds : List Matrix) (K S : Table) → SumFits Ds K S
    → ((D : Matrix) → Memᴰ D Ds → MatrixInRange D) → ((D : Matrix) → Memᴰ D Ds → GroupDifferences (plus D.modulus) D)
    → OrthogonalArray 2 K → OrthogonalArray 2 S → OrthogonalArray 2 (sum_step plus Ds K S)
unfolding sum_step
group_sum_leaves plus group Ds K S fits below differences table sheet =
    from_array
    (given Ds K S)
    (sum_levels K)
    (sum_value plus (rows_of Ds) K S)
    (S.runs * rows_of Ds)
    2
    (value_in_range plus group Ds K S fits below sheet.in_range table.in_range)
    (choices_even plus group Ds K S fits below sheet.in_range sheet.even table.even differences)

-- a table with no columns
no_columns_even : (g M : ℕ) → Even g (adjoined_table M none)
unfolding Even Settings adjoined_table
no_columns_even g M [] h s = no_settings (adjoined_table M none)
no_columns_even g M (x ∷ xs) h s = absurd (not-suc-le-zero s.0)

no_columns_in_range : (M : ℕ) → InRange (adjoined_table M none)
unfolding adjoined_table InRange
no_columns_in_range M r c h l = absurd (not-suc-le-zero l)

pub adjoined_array : (M : ℕ) (k : Option Table) → ((K : Table) → k ≡ some K → OrthogonalArray 2 K) → OrthogonalArray 2 (adjoined_table M k)
unfolding adjoined_table
adjoined_array M none all = record { even = no_columns_even 2 M; in_range = no_columns_in_range M }
adjoined_array M (some K) all = all K refl

-- SUM as document 01 has it, with the sums of 02, K2: those of a field or of a modulus, and k is a table or none
pub sum_leaves : (Ds : List Matrix) (k : Option Table) (S : Table) → SumFits Ds (adjoined_table (rows_of Ds) k) S
    → ((D : Matrix) → Memᴰ D Ds → PassingMatrix D) → ((K : Table) → k ≡ some K → OrthogonalArray 2 K)
    → OrthogonalArray 2 S → OrthogonalArray 2 (sum_step level_sum Ds (adjoined_table (rows_of Ds) k) S)
sum_leaves Ds k S fits passing tables sheet =
    group_sum_leaves
    level_sum
    level_group
    Ds
    (adjoined_table (rows_of Ds) k)
    S
    fits
    (λ D m. (passing D m).in_range)
    (λ D m. level_differences D (passing D m).in_range (passing D m).differences)
    (adjoined_array (rows_of Ds) k tables)
    sheet
