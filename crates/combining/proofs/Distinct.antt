-- A generator whose factors' combinations, each by coefficients that are not all zero, are different from each other and from zero, has any
-- two factors independent: what combines the columns of two factors to zero has in it a combination of the one that is opposite to one of the
-- other, and the opposite of a factor's combination is a combination of it too.
-- Assumes nothing.
use mathlib.Core.Path.{◌≡◌, refl, sym, ◌∙◌, ap, ap₂, subst}
use mathlib.Core.Logic.{⊎_elim}
use mathlib.Core.List.{List, [], ◌∷◌, ◌++◌, map, map-append, append-nil}
use Prim.Native.Nat.{ℕ, zero, suc, ◌+◌, ◌*◌, ◌^◌, ◌<◌}
use native.Mathlib.Nat.{eq-zero-or-pos, le_refl, lt_trans, zero-mul, add-zero}
use native.Mathlib.Omega.{arith}
use lib.Arith.{lt-one}
use lib.Dec.{lit<}
use lib.ListN.{length, get_or, take, drop, length-map, length-append, take-append-drop, length-drop}
use lib.Seq.{length-take-le}
use Rattle.std.specs.Prelude.{Ok}
use Rattle.finite.specs.Digits.{digits, numeral, horner}
use Rattle.finite.specs.Lists.{from}
use Rattle.finite.proofs.Lists.{Below, none, more, all_below, each_below, below_append, below_map, all_zero, below_replicate, length_from, part_below}
use Rattle.finite.proofs.Digits.{digits_zero, digits_numeral, numeral_below}
use Rattle.galois.specs.Laws.{Field}
use Rattle.galois.specs.Arithmetic.{field_sum, field_product}
use Rattle.galois.specs.Combination.{combination}
use Rattle.galois.proofs.Fields.{field}
use Rattle.galois.proofs.FieldAlgebra.{zero_below, plus_zero, cancel_right, combination_below, zero_coefficients, combination_append, combination_opposite}
use Rattle.counting.specs.Checkable.{CheckableGenerator}
use Rattle.counting.specs.Generator.{Generator, generator_of, width, ElementsInRange, factors, factor_columns, columns_of, Increasing, IndependentColumns, Independent}
use Rattle.counting.specs.GeneratorVerdict.{generator_verdict}
use Rattle.counting.proofs.GeneratorVerdicts.{no_columns, generator_passes}
use Rattle.combining.specs.Combining.{block_columns, factor_block, row_combination, combination_code}

-- ---- equal combinations have equal codes

module _ (s : ℕ) where
  horner_ext : {f g : ℕ → ℕ} (n : ℕ) → ((r : ℕ) → r < n → f r ≡ g r) → horner s f n ≡ horner s g n
  unfolding horner
  horner_ext zero e = refl
  horner_ext (suc n) e = ap₂ (λ a b. a * s + b) (horner_ext n (λ r h. e r (omega arith))) (e n (le_refl _))

  horner_zero : (n : ℕ) → horner s (λ r. 0) n ≡ 0
  unfolding horner
  horner_zero zero = refl
  horner_zero (suc n) = rw (horner_zero n, zero-mul)

-- ---- parts of a list

below_front : {n : ℕ} (xs ys : List ℕ) → Below n (xs ++ ys) → Below n xs
below_front [] ys b = none
below_front (x ∷ xs) ys (more h b) = more h (below_front xs ys b)

below_back : {n : ℕ} (xs ys : List ℕ) → Below n (xs ++ ys) → Below n ys
below_back [] ys b = b
below_back (x ∷ xs) ys (more h b) = below_back xs ys b

-- ---- codes that are not zero, and different for different factors

-- of n factors; the coefficient lists of factor i have the numbers 0 to size i - 1, and 0 is all zeros
pub record DistinctCodes (n : ℕ) (size : ℕ → ℕ) (code : ℕ → ℕ → ℕ) : Type 0 where
  pub nonzero : (i v : ℕ) → i < n → 0 < v → v < size i → code i v ≡ 0 → ⊥
  pub different : (i j v w : ℕ) → i < j → j < n → 0 < v → v < size i → 0 < w → w < size j → code i v ≡ code j w → ⊥

-- how many coefficient lists factor i has
abbrev lists : Generator → ℕ → ℕ
lists G i = G.size ^ get_or G.widths i 0

module _ (plus times : ℕ → ℕ → ℕ) (G : Generator) where
  -- the combination of a factor's columns in a row
  abbrev factor_row : ℕ → List ℕ → ℕ → ℕ
  factor_row i ks r = combination plus times ks (map (G.entry r) (factor_columns G.widths i))

  -- in all rows, as one number
  abbrev list_code : ℕ → List ℕ → ℕ
  list_code i ks = horner G.size (factor_row i ks) G.coordinates

  -- of the coefficient list number v
  abbrev factor_code : ℕ → ℕ → ℕ
  factor_code i v = list_code i (digits G.size (get_or G.widths i 0) v)

-- ---- then any two factors are independent

module _ {plus times : ℕ → ℕ → ℕ} (G : Generator) (F : Field G.size plus times) (entries : ElementsInRange G)
    (distinct : DistinctCodes (factors G) (lists G) (factor_code plus times G)) where
  abbrev row : ℕ → List ℕ → ℕ → ℕ
  row = factor_row plus times G

  abbrev code : ℕ → List ℕ → ℕ
  code = list_code plus times G

  abbrev opposites : List ℕ → List ℕ
  opposites ks = map F.group.opposite ks

  -- a coefficient for each column of factor i
  record For (i : ℕ) (ks : List ℕ) : Type 0 where
    pub many : length ks ≡ get_or G.widths i 0
    pub below : Below G.size ks

  elements_below : {i r : ℕ} → i < factors G → r < G.coordinates → Below G.size (map (G.entry r) (factor_columns G.widths i))
  unfolding ElementsInRange width factor_columns
  elements_below {r = r} hi hr = below_map (λ c h. entries r c hr h) (part_below G.widths hi)

  row_below : {i r : ℕ} {ks : List ℕ} → i < factors G → r < G.coordinates → Below G.size ks → row i ks r < G.size
  row_below hi hr b = combination_below F b (elements_below hi hr)

  -- a list is the digits of its number
  list_code_lem : {i : ℕ} {ks : List ℕ} → For i ks → factor_code plus times G i (numeral G.size ks) ≡ code i ks
  list_code_lem {i} {ks} f = ap (code i) (rw (← f.many) (digits_numeral (zero_below F) f.below))

  number_below : {i : ℕ} {ks : List ℕ} → For i ks → numeral G.size ks < lists G i
  number_below f = rw (← f.many) (numeral_below f.below)

  number_zero : {ks : List ℕ} → Below G.size ks → numeral G.size ks ≡ 0 → Below 1 ks
  number_zero {ks} b z =
      subst (Below 1) (sym (digits_zero G.size (length ks)) ∙ ap (digits G.size (length ks)) (sym z) ∙ digits_numeral (zero_below F) b)
      (below_replicate (length ks) (lit< tt))

  zeros_code : {i : ℕ} {ks : List ℕ} → i < factors G → Below 1 ks → code i ks ≡ 0
  zeros_code {i} {ks} hi b =
      horner_ext G.size G.coordinates
      (λ r hr. ap (λ l. row i l r) (all_zero b) ∙ zero_coefficients F (length ks) (elements_below hi hr))
      ∙ horner_zero G.size G.coordinates

  only_zeros : {i : ℕ} {ks : List ℕ} → i < factors G → For i ks → code i ks ≡ 0 → Below 1 ks
  only_zeros {i} {ks} hi f e =
      ⊎_elim
      (number_zero f.below)
      (λ (p : 0 < numeral G.size ks). absurd (distinct.nonzero i _ hi p (number_below f) (list_code_lem f ∙ e)))
      (eq-zero-or-pos (numeral G.size ks))

  -- two factors have no code in common but that of zeros
  both_zeros : {i j : ℕ} {ks ls : List ℕ} → i < j → j < factors G → For i ks → For j ls → code i ks ≡ code j ls → Below 1 ks × Below 1 ls
  both_zeros {i} {j} {ks} {ls} h hj f g e =
      let hi : i < factors G = lt_trans h hj in
      ⊎_elim
      (λ (p : numeral G.size ks ≡ 0). let z = number_zero f.below p in (z, only_zeros hj g (sym e ∙ zeros_code hi z)))
      (λ (p : 0 < numeral G.size ks). ⊎_elim
      (λ (q : numeral G.size ls ≡ 0). let z = number_zero g.below q in (only_zeros hi f (e ∙ zeros_code hj z), z))
      (λ (q : 0 < numeral G.size ls). absurd
      (distinct.different i j _ _ h hj p (number_below f) q (number_below g) (list_code_lem f ∙ e ∙ sym (list_code_lem g))))
      (eq-zero-or-pos (numeral G.size ls)))
      (eq-zero-or-pos (numeral G.size ks))

  opposites_below : {ks : List ℕ} → Below G.size ks → Below G.size (opposites ks)
  opposites_below b = below_map (λ k. F.group.opposite_below {a = k}) b

  opposites_zero : {ks : List ℕ} → Below G.size ks → Below 1 (opposites ks) → Below 1 ks
  opposites_zero none z = none
  opposites_zero (more {x = k} h b) (more z c) =
      let e : k ≡ 0 = sym (plus_zero F h) ∙ ap (plus k) (sym (lt-one z)) ∙ F.group.opposite_cancels h in
      more {x = k} (omega arith) (opposites_zero b c)

  -- what combines the columns of two factors to zero
  cancelling_zeros : {i j : ℕ} {ks ls : List ℕ} → i < j → j < factors G → For i ks → For j ls
      → ((r : ℕ) → r < G.coordinates → plus (row i ks r) (row j ls r) ≡ 0)
      → Below 1 ks × Below 1 ls
  cancelling_zeros {i} {j} {ks} {ls} h hj f g vanish =
      let hi : i < factors G = lt_trans h hj in
      let o = opposites_below g.below in
      let (z, y) =
      both_zeros h hj f (record { many = length-map ls F.group.opposite ∙ g.many; below = o })
      (horner_ext G.size G.coordinates
      (λ r hr. cancel_right F (row_below hi hr f.below) (row_below hj hr o) (row_below hj hr g.below)
      (vanish r hr ∙ sym (combination_opposite F g.below (elements_below hj hr))))) in
      (z, opposites_zero g.below y)

  many_columns : (i r : ℕ) → length (map (G.entry r) (factor_columns G.widths i)) ≡ get_or G.widths i 0
  unfolding factor_columns
  many_columns i r = length-map (factor_columns G.widths i) (G.entry r) ∙ length_from _ _

  pair_lists : (i j : ℕ) (ks ls : List ℕ) → i < j → j < factors G → length ks ≡ get_or G.widths i 0 → length ls ≡ get_or G.widths j 0
      → Below G.size (ks ++ ls)
      → ((r : ℕ) → r < G.coordinates
      → combination plus times (ks ++ ls) (map (G.entry r) (factor_columns G.widths i ++ factor_columns G.widths j)) ≡ 0)
      → Below 1 (ks ++ ls)
  pair_lists i j ks ls h hj m n b vanish =
      let f = below_front ks ls b in
      let g = below_back ks ls b in
      let (z, y) =
      cancelling_zeros h hj (record { many = m; below = f }) (record { many = n; below = g })
      (λ r hr. sym (combination_append F f (elements_below (lt_trans h hj) hr) (m ∙ sym (many_columns i r)) g (elements_below hj hr))
      ∙ ap (combination plus times (ks ++ ls)) (sym (map-append (G.entry r) (factor_columns G.widths i) (factor_columns G.widths j)))
      ∙ vanish r hr) in
      below_append z y

  one_independent : {i : ℕ} → i < factors G → IndependentColumns plus times G (columns_of G.widths (i ∷ []))
  unfolding IndependentColumns columns_of factor_columns
  one_independent {i} hi ks same below vanish =
      let columns = append-nil (factor_columns G.widths i) in
      each_below
      (only_zeros hi (record { many = same ∙ ap length columns ∙ length_from _ _; below = all_below ks below })
      (horner_ext G.size G.coordinates (λ r hr. ap (λ cs. combination plus times ks (map (G.entry r) cs)) (sym columns) ∙ vanish r hr)
      ∙ horner_zero G.size G.coordinates))

  two_independent : {i j : ℕ} → i < j → j < factors G → IndependentColumns plus times G (columns_of G.widths (i ∷ j ∷ []))
  unfolding IndependentColumns columns_of factor_columns
  two_independent {i} {j} h hj ks same below vanish =
      let w = get_or G.widths i 0 in
      let whole : take w ks ++ drop w ks ≡ ks = take-append-drop w ks in
      let columns : factor_columns G.widths j ++ [] ≡ factor_columns G.widths j = append-nil (factor_columns G.widths j) in
      let long : length ks ≡ w + get_or G.widths j 0 =
      same ∙ ap (λ cs. length (factor_columns G.widths i ++ cs)) columns
      ∙ length-append (factor_columns G.widths i) (factor_columns G.widths j)
      ∙ ap₂ ◌+◌ (length_from _ _) (length_from _ _) in
      each_below
      (rw whole at
      (pair_lists i j (take w ks) (drop w ks) h hj
      (length-take-le w ks (omega arith))
      (omega (arith, length-drop w ks))
      (rw whole (all_below ks below))
      (λ r hr. rw (whole, ← columns) (vanish r hr))))

  distinct_independent : Independent plus times 2 G
  unfolding Independent Increasing columns_of
  distinct_independent [] few up = no_columns plus times G (zero_below F)
  distinct_independent (i ∷ []) few up = one_independent up
  distinct_independent (i ∷ j ∷ []) few up = two_independent up.0 up.1
  distinct_independent (i ∷ j ∷ k ∷ is) few up = absurd (omega arith)

-- ---- the codes of blocks

module _ (entries : List ℕ) (t s : ℕ) (us : List ℕ) where
  block_code : (i v : ℕ)
      → factor_code (field_sum s) (field_product s) (generator_of entries t s us) i v
      ≡ combination_code entries t (width us) s (factor_block us i) v
  unfolding combination_code row_combination block_columns factor_block factor_columns generator_of from
  block_code i v = horner_ext s t (λ r h. rw (add-zero, append-nil))

  -- a generator whose codes are distinct passes
  pub distinct_passes : CheckableGenerator entries t s us
      → DistinctCodes (length us) (λ i. s ^ get_or us i 0) (λ i. combination_code entries t (width us) s (factor_block us i))
      → generator_verdict (generator_of entries t s us) ≡ Ok tt
  unfolding generator_of
  distinct_passes ok d =
      let F = field s ok.size in
      (generator_passes (generator_of entries t s us) (zero_below F)).1
      (distinct_independent (generator_of entries t s us) F ok.in_range
      (record {
        nonzero = λ i v h p l e. d.nonzero i v h p l (sym (block_code i v) ∙ e);
        different = λ i j v w h hj p l q m e. d.different i j v w h hj p l q m (sym (block_code i v) ∙ e ∙ block_code j w);
      }))
