-- CROSS leaves an even sheet, for any abelian groups on the levels. SUM's theorem has its columns among themselves. h's columns do not change with
-- the row, so it is enough that in each old run a column of SUM's holds each level in its share of the rows: k's do by k's balance, and the sums by
-- the balance of the matrix's column, since adding the sheet's level permutes the values.
-- Assumes nothing.
use mathlib.Core.Path.{◌≡◌, refl, sym, ◌∙◌, ap, ap₂, subst}
use mathlib.Core.Logic.{◌≢◌, ⊎_elim}
use mathlib.Core.Bool.{Bool, true, ◌&&◌, and_comm, and-true}
use mathlib.Core.List.Memᴰ
use mathlib.Core.List.{List, [], ◌∷◌, ◌++◌, map, map-append, map-map, Memᴰ}
use mathlib.Core.Option.{Option, some}
use Prim.Native.Nat.{ℕ, ◌+◌, ◌*◌, ◌/◌, ◌%◌, ◌≤◌, ◌<◌}
use native.Mathlib.Nat.{mul-one, one-mul, mul_comm, mul_assoc, div-lt_iff_lt-mul}
use native.Mathlib.Omega.{arith}
use lib.Dec.{eqb}
use lib.ListN.{length, length-append}
use Rattle.finite.specs.Sum.{sum, count, bit}
use Rattle.finite.specs.Lists.{from}
use Rattle.finite.proofs.Sums.{sum_ext}
use Rattle.finite.proofs.Counts.{count_ext, count_all, count_and, sum_passing}
use Rattle.galois.specs.Laws.{AbelianGroup}
use Rattle.galois.proofs.Levels.{level_group}
use Rattle.counting.specs.Matrix.{Matrix, MatrixInRange}
use Rattle.counting.specs.Table.{Table, columns, levels_of, Setting, shows, times, combinations, Apart, Settings, InRange, Even}
use Rattle.step_tables.specs.Sheet.{from_sources, OrthogonalArray, AllLevels}
use Rattle.step_tables.specs.Sum.{level_sum, PassingMatrix, rows_of, adjoined_table, SumSource, summed, adjoined, sum_sources, sum_levels, sum_entry, sum_value, sum_step}
use Rattle.step_tables.specs.Cross.{CrossSource, of_sum, following, cross_sources, cross_levels, cross_value, cross_step, CrossFits, value_times, EvenColumns, ServingEven}
use Rattle.step_tables.proofs.Lists.{mem_get_d, mem_map, mem_from, distinct_append, distinct_map, distinct_from, map_get_d}
use Rattle.step_tables.proofs.Columns.{◌at◌, chosen, choices, EvenChoices, swap_choices, Sources, from_array, from_levels}
use Rattle.step_tables.proofs.Groups.{GroupDifferences, less, less_below, sum_is, level_differences}
use Rattle.step_tables.proofs.Sum.{serving_mem, Comes, sources_come, sources_distinct, source_levels, factor_positive, count_runs, entry_below, level_below, choices_even, value_in_range, adjoined_array}

module _ (Ds : List Matrix) (K H S : Table) where
  -- what is made of every source is made of SUM's, and then of h's columns
  map_sources : {A : Type 0} (f : CrossSource → A)
      → map f (cross_sources Ds K H S) ≡ map (λ a. f (of_sum a)) (sum_sources Ds K S) ++ map (λ c. f (following c)) (from 0 (columns H))
  unfolding cross_sources
  map_sources f =
      map-append f (map of_sum (sum_sources Ds K S)) (map following (from 0 (columns H)))
      ∙ ap₂ ◌++◌ (map-map f of_sum (sum_sources Ds K S)) (map-map f following (from 0 (columns H)))

  -- what SUM's columns come from, and h's columns
  abbrev pub CrossComes : CrossSource → Type 0
  CrossComes (of_sum a) = Comes Ds K S a
  CrossComes (following c) = c < columns H

  pub cross_sources_come : (a : CrossSource) → Memᴰ a (cross_sources Ds K H S) → CrossComes a
  unfolding cross_sources
  cross_sources_come a m =
      ⊎_elim
      (λ n. let s = mem_map of_sum (sum_sources Ds K S) n in rw s.2 (sources_come Ds K S s.0 s.1))
      (λ n.
      let s = mem_map following (from 0 (columns H)) n in
      let b = mem_from 0 (columns H) s.1 in
      rw s.2 (omega arith))
      (Memᴰ.append_cases (map of_sum (sum_sources Ds K S)) m)

  given : Sources CrossComes (cross_sources Ds K H S)
  unfolding cross_sources
  given =
      record {
        past = following 0;
        distinct =
            distinct_append
            (map of_sum (sum_sources Ds K S))
            (map following (from 0 (columns H)))
            (distinct_map of_sum (λ x y e. cc) (sum_sources Ds K S) (sources_distinct Ds K S))
            (distinct_map following (λ x y e. cc) (from 0 (columns H)) (distinct_from 0 (columns H)))
            (λ a m n.
            let s = mem_map of_sum (sum_sources Ds K S) m in
            let t = mem_map following (from 0 (columns H)) n in
            let same : of_sum s.0 ≡ following t.0 = sym s.2 ∙ t.2 in
            let never : ◌≡◌ {A = ℕ} 0 1 = cc in
            omega arith);
        allowed = cross_sources_come;
      }

module _ (plus : ℕ → ℕ → ℕ → ℕ) (Ds : List Matrix) (K H S : Table) where
  -- a run of the next sheet is SUM's, and then h's at the old run
  pub cross_run : (M r : ℕ)
      → map (cross_value plus M K H S r) (cross_sources Ds K H S)
      ≡ map (sum_value plus M K S r) (sum_sources Ds K S) ++ map (H.cell (r / M)) (from 0 (columns H))
  unfolding cross_value
  cross_run M r = map_sources Ds K H S (cross_value plus M K H S r)

  -- and so are the level counts
  pub cross_level_list : (cross_step plus Ds K H S).levels ≡ (sum_step plus Ds K S).levels ++ H.levels
  unfolding cross_step sum_step from_sources cross_levels
  cross_level_list =
      map_sources Ds K H S (cross_levels K H) ∙ ap (λ ls. map (sum_levels K) (sum_sources Ds K S) ++ ls) (map_get_d H.levels 0)

  pub cross_columns : columns (cross_step plus Ds K H S) ≡ columns (sum_step plus Ds K S) + columns H
  cross_columns = ap length cross_level_list ∙ length-append (sum_step plus Ds K S).levels H.levels

  pub cross_levels_lem : (Q : ℕ → Type 0) → AllLevels Q K → AllLevels Q H → AllLevels Q S → AllLevels Q (cross_step plus Ds K H S)
  unfolding cross_step cross_levels AllLevels
  cross_levels_lem Q table other sheet =
      from_levels
      (given Ds K H S)
      (cross_levels K H)
      (cross_value plus (rows_of Ds) K H S)
      (S.runs * rows_of Ds)
      Q
      meets
    where
      meets : (a : CrossSource) → CrossComes Ds K H S a → Q (cross_levels K H a)
      meets (of_sum a) p = source_levels Ds K S Q table sheet a p
      meets (following c) p = other c p

module _ (plus : ℕ → ℕ → ℕ → ℕ) (group : (p : ℕ) → 0 < p → AbelianGroup p (plus p)) (Ds : List Matrix) (K H S : Table) (fits : CrossFits Ds K H S)
    (below : (D : Matrix) → Memᴰ D Ds → MatrixInRange D) (range : InRange S) where
  -- in each old run a column of SUM's holds each of its levels in its share of the rows
  module _ (even_adjoined : Even 2 K) (balanced : ServingEven Ds S) (i : ℕ) (old : i < S.runs) where
    row_share : (a : SumSource) (v : ℕ) → Comes Ds K S a → v < sum_levels K a
        → sum_levels K a * count (rows_of Ds) (λ y. eqb (sum_entry plus K S i y a) v) ≡ rows_of Ds
    unfolding sum_levels sum_entry ServingEven EvenColumns value_times Even combinations times shows Settings Apart
    row_share (summed j D c) v p h =
        let serves = serving_mem Ds (levels_of S j) D p.1 in
        let level : S.cell i j < D.modulus = level_below plus group Ds K S fits.as_sum below range j c i D p old in
        let on_sheet = Memᴰ.cast serves.1 (mem_get_d S.levels j 0 p.0) in
        ap
        (λ n. D.modulus * n)
        (count_ext (rows_of Ds) (λ y k.
        let entry : D.entry y c < D.modulus = entry_below plus group Ds K S fits.as_sum below range j c y D p k in
        ap (λ x. eqb x v) ((group D.modulus (omega arith)).sums.commutes level entry)
        ∙ sum_is plus group D.modulus entry level h))
        ∙ subst
        (λ n. D.modulus * count n (λ y. eqb (D.entry y c) (less plus group D.modulus v (S.cell i j))) ≡ n)
        (fits.as_sum.equal_rows D serves.0)
        (balanced D serves.0 on_sheet c (less plus group D.modulus v (S.cell i j)) p.2 (less_below plus group D.modulus h level))
    row_share (adjoined c) v p h =
        ap₂
        ◌*◌
        (sym (mul-one (levels_of K c)))
        (count_ext (rows_of Ds) (λ y k. sym (and-true (eqb (K.cell y c) v))))
        ∙ subst
        (λ n. levels_of K c * 1 * count n (λ y. eqb (K.cell y c) v && true) ≡ n)
        fits.as_sum.adjoined_runs
        (even_adjoined (record { column = c; level = v } ∷ []) (omega arith) (p, h, tt, tt))

  -- Where M ÷ p rows pass a test in each old run, the test and settings of h stand together in their share of the new runs. p = 1, with a test that
  -- every row passes, leaves the settings of h.
  shares : (p : ℕ) (f : ℕ → ℕ → Bool) → ((i : ℕ) → i < S.runs → p * count (rows_of Ds) (f i) ≡ rows_of Ds)
      → Even 2 H → (xs : List Setting) → length xs ≤ 2 → Settings H xs
      → p * combinations H xs * count (S.runs * rows_of Ds) (λ r. f (r / rows_of Ds) (r % rows_of Ds) && shows H xs (r / rows_of Ds))
      ≡ S.runs * rows_of Ds
  unfolding Even times
  shares p f share even xs few ok =
      ap₂
      ◌*◌
      (mul_comm p (combinations H xs))
      (count_runs S.runs (rows_of Ds) (λ i y. f i y && shows H xs i)
      ∙ sum_ext S.runs (λ i h.
      count_ext (rows_of Ds) (λ y k. and_comm (f i y) (shows H xs i)) ∙ count_and (rows_of Ds) (shows H xs i) (f i)))
      ∙ mul_assoc (combinations H xs) p (sum S.runs (λ i. bit (shows H xs i) * count (rows_of Ds) (f i)))
      ∙ ap
      (λ n. combinations H xs * n)
      (sum_passing S.runs p (rows_of Ds) (shows H xs) (λ i. count (rows_of Ds) (f i)) share
      ∙ mul_comm (rows_of Ds) (count S.runs (shows H xs)))
      ∙ sym (mul_assoc (combinations H xs) (count S.runs (shows H xs)) (rows_of Ds))
      ∙ ap
      (λ n. n * rows_of Ds)
      (subst (λ n. combinations H xs * count n (shows H xs) ≡ n) fits.other_runs (even xs few ok))

  module _ (even : Even 2 S) (even_adjoined : Even 2 K) (even_other : Even 2 H) (balanced : ServingEven Ds S)
      (differences : (D : Matrix) → Memᴰ D Ds → GroupDifferences (plus D.modulus) D) where
    -- SUM's columns by themselves, by SUM's theorem
    sums_even : EvenChoices (Comes Ds K S) ◌≢◌ (sum_levels K) (sum_value plus (rows_of Ds) K S) (S.runs * rows_of Ds) 2
    sums_even = choices_even plus group Ds K S fits.as_sum below range even even_adjoined differences

    -- h's columns by themselves
    others_even : (xs : List Setting) → length xs ≤ 2 → Settings H xs
        → combinations H xs * count (S.runs * rows_of Ds) (λ r. shows H xs (r / rows_of Ds)) ≡ S.runs * rows_of Ds
    others_even xs few ok =
        ap (λ n. n * count (S.runs * rows_of Ds) (λ r. shows H xs (r / rows_of Ds))) (sym (one-mul (combinations H xs)))
        ∙ shares 1 (λ i y. true) (λ i h. one-mul (count (rows_of Ds) (λ y. true)) ∙ count_all (rows_of Ds) (λ y k. refl)) even_other xs few ok

    -- a column of SUM's and one of h's
    abbrev Mixed : SumSource → ℕ → ℕ → ℕ → Type 0
    Mixed a v d w =
        choices (cross_levels K H) ((of_sum a at v) ∷ (following d at w) ∷ [])
        * count (S.runs * rows_of Ds) (λ r. chosen (cross_value plus (rows_of Ds) K H S r) ((of_sum a at v) ∷ (following d at w) ∷ []))
        ≡ S.runs * rows_of Ds

    mixed_even : (a : SumSource) (v d w : ℕ) → Comes Ds K S a → v < sum_levels K a → d < columns H → w < levels_of H d → Mixed a v d w
    unfolding cross_levels cross_value sum_value combinations shows Settings Apart
    mixed_even a v d w p h q k =
        shares
        (sum_levels K a)
        (λ i y. eqb (sum_entry plus K S i y a) v)
        (λ i old. row_share even_adjoined balanced i old a v p h)
        even_other
        (record { column = d; level = w } ∷ [])
        (omega arith)
        (q, k, tt, tt)

    cross_even : EvenChoices (CrossComes Ds K H S) ◌≢◌ (cross_levels K H) (cross_value plus (rows_of Ds) K H S) (S.runs * rows_of Ds) 2
    unfolding cross_levels cross_value combinations shows Settings Apart
    cross_even [] h ok = sums_even [] h ok
    cross_even ((of_sum a at v) ∷ []) h ok = sums_even ((a at v) ∷ []) h ok
    cross_even ((following c at v) ∷ []) h ok = others_even (record { column = c; level = v } ∷ []) h ok
    cross_even ((of_sum a at v) ∷ (of_sum b at w) ∷ []) h ok =
        sums_even ((a at v) ∷ (b at w) ∷ []) h (ok.0, ok.1, (λ e. ok.2.0 (ap of_sum e), tt), ok.3)
    cross_even ((of_sum a at v) ∷ (following d at w) ∷ []) h ok = mixed_even a v d w ok.0 ok.1 ok.3.0 ok.3.1
    cross_even ((following c at v) ∷ (of_sum b at w) ∷ []) h ok =
        swap_choices
        (cross_levels K H)
        (cross_value plus (rows_of Ds) K H S)
        (S.runs * rows_of Ds)
        (following c)
        (of_sum b)
        v
        w
        (mixed_even b w c v ok.3.0 ok.3.1 ok.0 ok.1)
    cross_even ((following c at v) ∷ (following d at w) ∷ []) h ok =
        others_even
        (record { column = c; level = v } ∷ record { column = d; level = w } ∷ [])
        h
        (ok.0, ok.1, (λ e. ok.2.0 (ap following e), tt), ok.3)
    cross_even (x ∷ y ∷ z ∷ xs) h ok = absurd (omega arith)

  cross_in_range : InRange K → InRange H → (r : ℕ) (a : CrossSource) → r < S.runs * rows_of Ds → CrossComes Ds K H S a
      → cross_value plus (rows_of Ds) K H S r a < cross_levels K H a
  unfolding cross_value cross_levels InRange
  cross_in_range table other r (of_sum a) h p = value_in_range plus group Ds K S fits.as_sum below range table r a h p
  cross_in_range table other r (following c) h p =
      let run : r / rows_of Ds < S.runs = (div-lt_iff_lt-mul (factor_positive S.runs (rows_of Ds) h)).1 h in
      other (r / rows_of Ds) c (rw fits.other_runs run) p

-- CROSS with any abelian group on the levels, for matrices whose differences in that group are even, and that serve with even columns
pub group_cross_leaves : (plus : ℕ → ℕ → ℕ → ℕ) → ((p : ℕ) → 0 < p → AbelianGroup p (plus p)) → (Ds : List Matrix) (K H S : Table)
    → CrossFits Ds K H S → ServingEven Ds S
    → ((D : Matrix) → Memᴰ D Ds → MatrixInRange D) → ((D : Matrix) → Memᴰ D Ds → GroupDifferences (plus D.modulus) D)
    → OrthogonalArray 2 K → OrthogonalArray 2 H → OrthogonalArray 2 S → OrthogonalArray 2 (cross_step plus Ds K H S)
unfolding cross_step
group_cross_leaves plus group Ds K H S fits balanced below differences table other sheet =
    from_array
    (given Ds K H S)
    (cross_levels K H)
    (cross_value plus (rows_of Ds) K H S)
    (S.runs * rows_of Ds)
    2
    (cross_in_range plus group Ds K H S fits below sheet.in_range table.in_range other.in_range)
    (cross_even plus group Ds K H S fits below sheet.in_range sheet.even table.even other.even balanced differences)

-- CROSS as 02, K6 has it, with the sums of 02, K2
pub cross_leaves : (Ds : List Matrix) (k : Option Table) (H S : Table) → CrossFits Ds (adjoined_table (rows_of Ds) k) H S → ServingEven Ds S
    → ((D : Matrix) → Memᴰ D Ds → PassingMatrix D) → ((K : Table) → k ≡ some K → OrthogonalArray 2 K)
    → OrthogonalArray 2 H → OrthogonalArray 2 S → OrthogonalArray 2 (cross_step level_sum Ds (adjoined_table (rows_of Ds) k) H S)
cross_leaves Ds k H S fits balanced passing tables other sheet =
    group_cross_leaves
    level_sum
    level_group
    Ds
    (adjoined_table (rows_of Ds) k)
    H
    S
    fits
    balanced
    (λ D m. (passing D m).in_range)
    (λ D m. level_differences D (passing D m).in_range (passing D m).differences)
    (adjoined_array (rows_of Ds) k tables)
    other
    sheet
