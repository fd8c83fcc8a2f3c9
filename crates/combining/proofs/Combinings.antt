-- How a combination grows by one element, in front of those it has, and by a block of them.
-- Assumes nothing.
use mathlib.Core.Path.{◌≡◌, refl, sym, ◌∙◌, ap, ap₂}
use mathlib.Core.Logic.{⊎_elim}
use mathlib.Core.Bool.{true, false, cond, ◌&&◌, and-false}
use mathlib.Core.Option.{none as nothing, some}
use mathlib.Core.List.{List, [], ◌∷◌, ◌++◌, map}
use Prim.Native.Nat.{ℕ, zero, suc, ◌+◌, ◌-◌, ◌*◌, ◌/◌, ◌%◌, ◌^◌, ◌≤◌, ◌<◌}
use native.Mathlib.Nat.{eq-zero-or-pos, add-suc, add-sub_cancel_left, suc_inj, suc-ne-zero, le_refl, le_trans, add-sub_of_le, pow-zero, pow-suc, div-one, sub_self, div-div-eq-div-mul}
use native.Mathlib.Omega.{arith}
use lib.Dec.{T, ltb}
use borrow.Author.Tests.{eq-eqb, ne_eqb, lt-ltb}
use lib.ListN.{length, get_or, length-map, length-append}
use lib.Pow.{pow-add}
use Rattle.finite.specs.Digits.{digits}
use Rattle.finite.specs.Lists.{from}
use Rattle.finite.proofs.Firsts.{first_none, first_at}
use Rattle.finite.proofs.Tests.{every_true, every_false}
use Rattle.finite.proofs.Fits.{run_end}
use Rattle.finite.proofs.Lists.{Below, none, more, length_from}
use Rattle.finite.proofs.Digits.{digits_length, digits_below, digits_append}
use Rattle.galois.specs.Arithmetic.{field_size, field_sum, field_product}
use Rattle.galois.specs.Combination.{combination}
use Rattle.galois.proofs.Fields.{field, size_positive}
use Rattle.counting.specs.Generator.{Generator}
use Rattle.counting.specs.GeneratorVerdict.{combines_to_zero, dependence}
use Rattle.combining.specs.Combining.{combination_onto, elements, combined, ElementsAt, BlocksIn, grid_of, block_columns, row_combination}
use Rattle.combining.specs.declared.Block.{Block}
use Rattle.combining.specs.declared.Combining.{Combining}

-- ---- elements of the field
pub sum_below : (s : ℕ) → T (field_size s) → {a b : ℕ} → a < s → b < s → field_sum s a b < s
sum_below s t ha hb = (field s t).group.sums.closed ha hb

pub product_below : (s : ℕ) → T (field_size s) → {a b : ℕ} → a < s → b < s → field_product s a b < s
product_below s t ha hb = (field s t).products.closed ha hb

-- ---- one element after the other
-- no elements
pub combined_none : (s : ℕ) (entries : List ℕ) (end : ℕ) (so_far : Combining) → combined s entries end end so_far ≡ so_far
unfolding combined elements digits from combination_onto
combined_none s entries end so_far = rw (sub_self end, pow-zero, div-one)

-- one element more, in front of what is combined
pub combined_more : (s : ℕ) (entries : List ℕ) (at end : ℕ) (so_far now : Combining) → 0 < at → at ≤ end
    → now ≡ combined s entries at end so_far
    → record {
      rest = now.rest / s;
      sum = field_sum s (field_product s (now.rest % s) (get_or entries (at - 1) 0)) now.sum;
    }
    ≡ combined s entries (at - 1) end so_far
unfolding combined elements digits from combination_onto
combined_more s entries at end so_far now p h e =
    let n : end - (at - 1) ≡ suc (end - at) = omega arith in
    let m : suc (at - 1) ≡ at = omega arith in
    rw (e, n, m, pow-suc, ← div-div-eq-div-mul)

-- ---- two blocks, the later one first
onto_zero : (plus times : ℕ → ℕ → ℕ) (ks xs : List ℕ) → combination_onto plus times ks xs 0 ≡ combination plus times ks xs
unfolding combination_onto combination
onto_zero plus times [] xs = refl
onto_zero plus times (k ∷ ks) [] = refl
onto_zero plus times (k ∷ ks) (x ∷ xs) = ap (plus (times k x)) (onto_zero plus times ks xs)

onto_append : (plus times : ℕ → ℕ → ℕ) (ks xs ks' xs' : List ℕ) → length ks ≡ length xs
    → combination plus times (ks ++ ks') (xs ++ xs') ≡ combination_onto plus times ks xs (combination plus times ks' xs')
unfolding combination_onto combination
onto_append plus times [] [] ks' xs' e = refl
onto_append plus times [] (x ∷ xs) ks' xs' e = absurd (suc-ne-zero _ (sym e))
onto_append plus times (k ∷ ks) [] ks' xs' e = absurd (suc-ne-zero _ e)
onto_append plus times (k ∷ ks) (x ∷ xs) ks' xs' e = ap (plus (times k x)) (onto_append plus times ks xs ks' xs' (suc_inj e))

map_append : (f : ℕ → ℕ) (xs ys : List ℕ) → map f (xs ++ ys) ≡ map f xs ++ map f ys
map_append f [] ys = refl
map_append f (x ∷ xs) ys = ap (λ zs. f x ∷ zs) (map_append f xs ys)

shifted : (entries : List ℕ) (start a n : ℕ)
    → map (λ i. get_or entries i 0) (from (start + a) n) ≡ map (λ c. get_or entries (start + c) 0) (from a n)
unfolding from
shifted entries start a zero = refl
shifted entries start a (suc n) = rw (← add-suc start a) (ap (λ xs. get_or entries (start + a) 0 ∷ xs) (shifted entries start (suc a) n))

elements_from : (entries : List ℕ) (start a n : ℕ)
    → elements entries (start + a) (start + a + n) ≡ map (λ c. get_or entries (start + c) 0) (from a n)
unfolding elements
elements_from entries start a n = rw add-sub_cancel_left (shifted entries start a n)

pub row_combined : (entries : List ℕ) (start s : ℕ) (one other : Block) (v : ℕ)
    → (combined s entries (start + one.start) (start + one.start + one.width)
    (combined s entries (start + other.start) (start + other.start + other.width) (record { rest = v; sum = 0 }))).sum
    ≡ row_combination entries start s one other v
unfolding row_combination block_columns combined
row_combined entries start s one other v =
    let f : ℕ → ℕ = λ c. get_or entries (start + c) 0 in
    rw (
      add-sub_cancel_left (start + one.start) one.width,
      add-sub_cancel_left (start + other.start) other.width,
      elements_from entries start one.start one.width,
      elements_from entries start other.start other.width,
      onto_zero,
      digits_append s one.width other.width v,
      map_append f (from one.start one.width) (from other.start other.width),
    )
    (sym (onto_append _ _ _ _ _ _ (digits_length s one.width _ ∙ sym (length-map (from one.start one.width) f ∙ length_from one.start one.width))))

-- ---- what is combined is an element
onto_below : (s : ℕ) (t : T (field_size s)) {ks xs : List ℕ} {after : ℕ} → Below s ks → Below s xs → after < s
    → combination_onto (field_sum s) (field_product s) ks xs after < s
unfolding combination_onto
onto_below s t none b h = h
onto_below s t (more k ks) none h = h
onto_below s t (more k ks) (more x xs) h = sum_below s t (product_below s t k x) (onto_below s t ks xs h)

below_places : {s : ℕ} (f : ℕ → ℕ) (a n : ℕ) → ((i : ℕ) → a ≤ i → i < a + n → f i < s) → Below s (map f (from a n))
unfolding from
below_places f a zero h = none
below_places f a (suc n) h =
    more (h a (le_refl a) (omega arith)) (below_places f (suc a) n (λ i l k. h i (omega arith) (omega arith)))

pub combined_below : (s : ℕ) (entries : List ℕ) (start end : ℕ) (so_far : Combining) → ElementsAt entries start end s → so_far.sum < s
    → (combined s entries start end so_far).sum < s
unfolding combined elements
combined_below s entries start end so_far e h =
    onto_below s e.size (digits_below (size_positive s e.size) (end - start) so_far.rest)
    (below_places _ start (end - start) (λ i l k. e.below i l (omega (arith, e.ordered)))) h

-- the elements of a block in a row
pub block_elements : {entries : List ℕ} {t row s : ℕ} {one other : Block} → BlocksIn entries t row s one other
    → (r a n : ℕ) → r < t → a + n ≤ row → ElementsAt entries (r * row + a) (r * row + a + n) s
block_elements {row = row} b r a n h l =
    record {
      ordered = omega arith;
      end_in = le_trans (omega arith) (run_end r row h b.whole);
      size = b.size;
      below = λ i from_start to_end. rw (add-sub_of_le {n = i} {m = r * row} (omega arith)) at (b.below r (i - r * row) h (omega arith));
    }

-- ---- every row
pub length_block : (one other : Block) → length (block_columns one other) ≡ one.width + other.width
unfolding block_columns
length_block one other =
    length-append (from one.start one.width) (from other.start other.width)
    ∙ ap₂ ◌+◌ (length_from one.start one.width) (length_from other.start other.width)

module _ (entries : List ℕ) (t row s : ℕ) (one other : Block) (v : ℕ) where
  row_test : (r : ℕ)
      → combination (field_sum s) (field_product s) (digits s (length (block_columns one other)) v) (map ((grid_of entries t row s).entry r) (block_columns one other))
      ≡ row_combination entries (r * row) s one other v
  unfolding row_combination grid_of
  row_test r = rw length_block

  pub rows_combine : ((r : ℕ) → r < t → row_combination entries (r * row) s one other v ≡ 0)
      → true ≡ combines_to_zero (field_sum s) (field_product s) (grid_of entries t row s) (block_columns one other) v
  unfolding combines_to_zero grid_of
  rows_combine e = sym (every_true t _ (λ r h. eq-eqb _ 0 (row_test r ∙ e r h)))

  pub row_fails : (r : ℕ) → r < t → (row_combination entries (r * row) s one other v ≡ 0 → ⊥)
      → false ≡ combines_to_zero (field_sum s) (field_product s) (grid_of entries t row s) (block_columns one other) v
  unfolding combines_to_zero grid_of
  row_fails r h n = sym (every_false t _ r h (ne_eqb _ 0 (λ e. n (sym (row_test r) ∙ e))))

-- ---- the coefficient lists, in increasing order
module _ (plus times : ℕ → ℕ → ℕ) (G : Generator) (cs : List ℕ) where
  test_at : (w : ℕ) → (0 < w → combines_to_zero plus times G cs w ≡ false)
      → cond (ltb 0 w && combines_to_zero plus times G cs w) (some w) nothing ≡ nothing
  test_at w f = ⊎_elim (λ (e : w ≡ 0). rw e) (λ (p : 0 < w). rw (f p, and-false)) (eq-zero-or-pos w)

  pub dependence_none : ((w : ℕ) → 0 < w → w < G.size ^ length cs → combines_to_zero plus times G cs w ≡ false)
      → dependence plus times G cs ≡ nothing
  unfolding dependence
  dependence_none f = first_none _ _ (λ w h. test_at w (λ p. f w p h))

  pub dependence_at : (v : ℕ) → 0 < v → v < G.size ^ length cs → combines_to_zero plus times G cs v ≡ true
      → ((w : ℕ) → 0 < w → w < v → combines_to_zero plus times G cs w ≡ false)
      → dependence plus times G cs ≡ some v
  unfolding dependence
  dependence_at v p h e f =
      first_at _ _ v v h (λ w l. test_at w (λ q. f w q l)) (rw (e, lt-ltb 0 v p))

-- how many they are
pub lists_many : (s : ℕ) (one other : Block) → s ^ one.width * s ^ other.width ≡ s ^ length (block_columns one other)
lists_many s one other = rw (length_block, pow-add)
