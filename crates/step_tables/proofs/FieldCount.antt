-- Independent columns take each list of values equally often. For tuples x, coefficient lists k, the matrix C of the columns and the values y,
-- count the pairs of x and k with (x C) k = y k. An x has every k where x C = y, and elsewhere one in s of them. A k has every x where k is
-- zero, and elsewhere one in s of them, since C k is not zero there. Both ways count the same pairs, which leaves one number of x with x C = y.
-- Assumes nothing.
use mathlib.Core.Path.{◌≡◌, sym, ◌∙◌, ap, ap₂}
use mathlib.Core.Bool.{Bool, true, false}
use mathlib.Core.List.{List, ◌++◌, map, map-append}
use Prim.Native.Nat.{ℕ, pred, ◌+◌, ◌*◌, ◌^◌, ◌<◌}
use native.Mathlib.Nat.{mul_comm, mul-one, mul_assoc, mul-zero, add-zero, add_comm, suc-mul, add_left_cancel, eq_of_mul-eq-mul_left, suc-pred-eq_of_pos, one-le-pow}
use native.Mathlib.Omega.{arith}
use borrow.Author.Tests.{eq-eqb}
use lib.Dec.{T, eqb, eqb→eq}
use lib.ListN.{length, replicate, length-map}
use Rattle.finite.specs.Sum.{count, bit}
use Rattle.finite.specs.Digits.{digits}
use Rattle.finite.specs.Lists.{AllBelow, from}
use Rattle.finite.proofs.Tests.{eqb_sym}
use Rattle.finite.proofs.Sums.{sum_ext, sum_mul}
use Rattle.finite.proofs.Counts.{count_ext, count_all, count_exchange, count_one, sum_marked}
use Rattle.finite.proofs.Lists.{Below, each_below, all_below, all_zero, below_map, below_from, map_from, same, eq→same, same→eq, length_from}
use Rattle.finite.proofs.Digits.{digits_length, digits_below, digits_zero, digits_injective}
use Rattle.galois.specs.Laws.{Field}
use Rattle.galois.specs.Combination.{combination}
use Rattle.galois.proofs.FieldAlgebra.{zero_below, combination_below, zero_coefficients, combination_exchange}
use Rattle.counting.specs.Generator.{Generator, ElementsInRange, width, IndependentColumns}
use Rattle.step_tables.specs.Field.{column_elements, values}
use Rattle.step_tables.proofs.FieldBalance.{count_equal, count_value}

-- s times a count c, which is n where a test passes, and elsewhere one in s of n
share : (s n c : ℕ) (b : Bool) → 0 < s → (T b → c ≡ n) → (¬ T b → s * c ≡ n) → s * c ≡ n + pred s * n * bit b
share s n c true h all part =
    rw (mul-one (pred s * n), all tt) (ap (λ m. m * n) (sym (suc-pred-eq_of_pos h)) ∙ suc-mul (pred s) n ∙ add_comm (pred s * n) n)
share s n c false h all part = rw (mul-zero (pred s * n), add-zero n) (part (λ z. z))

-- what the two counts of the pairs say
equal_counts : (n k m c : ℕ) → 0 < m → n * k + m * k * c ≡ k * n + m * n * 1 → k * c ≡ n
equal_counts n k m c h e =
    eq_of_mul-eq-mul_left m h (k * c) n
    (sym (mul_assoc m k c) ∙ add_left_cancel (n * k) (e ∙ ap₂ ◌+◌ (mul_comm k n) (mul-one (m * n))))

-- ---- a tuple times columns

pub values_length : (◌⊕◌ ◌⊗◌ : ℕ → ℕ → ℕ) (G : Generator) (xs cs : List ℕ) → length (values ◌⊕◌ ◌⊗◌ G xs cs) ≡ length cs
unfolding values
values_length ◌⊕◌ ◌⊗◌ G xs cs = length-map cs _

pub values_append : (◌⊕◌ ◌⊗◌ : ℕ → ℕ → ℕ) (G : Generator) (xs cs ds : List ℕ)
    → values ◌⊕◌ ◌⊗◌ G xs (cs ++ ds) ≡ values ◌⊕◌ ◌⊗◌ G xs cs ++ values ◌⊕◌ ◌⊗◌ G xs ds
unfolding values
values_append ◌⊕◌ ◌⊗◌ G xs cs ds = map-append _ cs ds

rows : (G : Generator) → Below G.coordinates (from 0 G.coordinates)
rows G = below_from 0 G.coordinates (omega arith)

pub values_below : {◌⊕◌ ◌⊗◌ : ℕ → ℕ → ℕ} (G : Generator) (F : Field G.size ◌⊕◌ ◌⊗◌) → ElementsInRange G → {xs cs : List ℕ}
    → Below G.size xs → Below (width G.widths) cs → Below G.size (values ◌⊕◌ ◌⊗◌ G xs cs)
unfolding values column_elements ElementsInRange
values_below G F entries bx bc = below_map (λ c hc. combination_below F bx (below_map (λ i hi. entries i c hi hc) (rows G))) bc

-- ---- the pairs of a run and a list of coefficients

module _ (◌⊕◌ ◌⊗◌ : ℕ → ℕ → ℕ) (G : Generator) (cs ys : List ℕ) where
  open G use {size as s, coordinates as t, entry}

  infix 75 ◌·◌
  abbrev ◌·◌ : List ℕ → List ℕ → ℕ
  ks · xs = combination ◌⊕◌ ◌⊗◌ ks xs

  abbrev coefficients : ℕ → List ℕ
  coefficients k = digits s (length cs) k

  -- the values of run r
  abbrev found : ℕ → List ℕ
  found r = values ◌⊕◌ ◌⊗◌ G (digits s t r) cs

  -- the columns, combined by the coefficients number k
  abbrev combined : ℕ → List ℕ
  combined k = map (λ i. coefficients k · map (entry i) cs) (from 0 t)

  -- the coefficients number k combine the values of run r and ys to one element
  abbrev alike : ℕ → ℕ → Bool
  alike r k = eqb (coefficients k · found r) (coefficients k · ys)

  module _ (F : Field s ◌⊕◌ ◌⊗◌) (entries : ElementsInRange G)
      (bc : Below (width G.widths) cs) (by : Below s ys) (e : length ys ≡ length cs) where
    tuple_below : (r : ℕ) → Below s (digits s t r)
    tuple_below r = digits_below (zero_below F) t r

    coefficients_below : (k : ℕ) → Below s (coefficients k)
    coefficients_below k = digits_below (zero_below F) (length cs) k

    found_below : (r : ℕ) → Below s (found r)
    found_below r = values_below G F entries (tuple_below r) bc

    combined_below : (k : ℕ) → Below s (combined k)
    unfolding ElementsInRange
    combined_below k = below_map (λ i hi. combination_below F (coefficients_below k) (below_map (λ c hc. entries i c hi hc) bc)) (rows G)

    -- the lists of coefficients for one run: all of them where its values are ys, elsewhere one in s
    by_run : (r : ℕ) → s * count (s ^ length cs) (alike r) ≡ s ^ length cs + pred s * s ^ length cs * bit (same (found r) ys)
    by_run r =
        share s (s ^ length cs) (count (s ^ length cs) (alike r)) (same (found r) ys) (zero_below F)
        (λ holds. count_all (s ^ length cs) (λ k h. eq-eqb _ _ (ap (λ v. coefficients k · v) (same→eq (found r) ys holds))))
        (λ fails. count_equal F (values_length ◌⊕◌ ◌⊗◌ G (digits s t r) cs) e (λ p. fails (eq→same p)) (found_below r) by)

    -- the coefficients number 0 are all zeros
    no_coefficients : (k : ℕ) {v : List ℕ} → T (eqb 0 k) → Below s v → coefficients k · v ≡ 0
    no_coefficients k holds bv = rw (← eqb→eq 0 k holds, digits_zero) (zero_coefficients F (length cs) bv)

    -- (x C) k = x (C k)
    exchanged : (r k : ℕ) → coefficients k · found r ≡ digits s t r · combined k
    unfolding values column_elements ElementsInRange
    exchanged r k = combination_exchange F entries (coefficients_below k) (tuple_below r) (rows G) bc

    module _ (independent : IndependentColumns ◌⊕◌ ◌⊗◌ G cs) where
      -- only the coefficients number 0 combine the columns to zero
      vanishing : {k : ℕ} → k < s ^ length cs → combined k ≡ map (λ i. 0) (from 0 t) → 0 ≡ k
      unfolding IndependentColumns
      vanishing {k} h p =
          let size = digits_length s (length cs) k in
          let rowwise = map_from (λ i. coefficients k · map (entry i) cs) (λ i. 0) 0 t p in
          let zeros = independent (coefficients k) size (each_below (coefficients_below k)) (λ i hi. rowwise i (omega arith) (omega arith)) in
          digits_injective (zero_below F) (length cs) (omega arith) h
          (digits_zero s (length cs) ∙ ap (λ n. replicate n 0) (sym size) ∙ sym (all_zero (all_below (coefficients k) zeros)))

      -- the runs for one list of coefficients: all of them where it is all zeros, elsewhere one in s
      by_coefficients : {k : ℕ} → k < s ^ length cs → s * count (s ^ t) (λ r. alike r k) ≡ s ^ t + pred s * s ^ t * bit (eqb 0 k)
      by_coefficients {k} h =
          let size = length_from 0 t in
          share s (s ^ t) (count (s ^ t) (λ r. alike r k)) (eqb 0 k) (zero_below F)
          (λ holds. count_all (s ^ t) (λ r l. eq-eqb _ _ (no_coefficients k holds (found_below r) ∙ sym (no_coefficients k holds by))))
          (λ fails.
          ap (λ n. s * n) (count_ext (s ^ t) (λ r l. ap (λ v. eqb v (coefficients k · ys)) (exchanged r k)))
          ∙ count_value F (rows G) size (length-map (from 0 t) _ ∙ size) (λ p. fails (rw (eq-eqb 0 k (vanishing h p)) tt))
          (combined_below k) (combination_below F (coefficients_below k) by))

      -- the pairs, counted both ways
      pairs : s ^ t * s ^ length cs + pred s * s ^ length cs * count (s ^ t) (λ r. same (found r) ys)
          ≡ s ^ length cs * s ^ t + pred s * s ^ t * 1
      pairs =
          let runs = s ^ t in
          let lists = s ^ length cs in
          sym (sum_marked runs lists (pred s * lists) (λ r. same (found r) ys))
          ∙ sym (sum_ext runs (λ r h. by_run r))
          ∙ sum_mul runs s (λ r. count lists (alike r))
          ∙ ap (λ n. s * n) (count_exchange runs lists alike)
          ∙ sym (sum_mul lists s (λ k. count runs (λ r. alike r k)))
          ∙ sum_ext lists (λ k h. by_coefficients h)
          ∙ sum_marked lists runs (pred s * runs) (λ k. eqb 0 k)
          ∙ ap (λ n. lists * runs + pred s * runs * n) (count_ext lists (λ k h. eqb_sym 0 k) ∙ count_one lists 0 (one-le-pow (length cs) s (zero_below F)))

-- For independent columns and a list ys of as many values, s ^ (number of columns) times the number of runs with the values ys is the number
-- of all runs.
pub count_values : {◌⊕◌ ◌⊗◌ : ℕ → ℕ → ℕ} (G : Generator) → Field G.size ◌⊕◌ ◌⊗◌ → ElementsInRange G
    → (cs ys : List ℕ) → AllBelow (width G.widths) cs → AllBelow G.size ys → length ys ≡ length cs
    → IndependentColumns ◌⊕◌ ◌⊗◌ G cs
    → G.size ^ length cs * count (G.size ^ G.coordinates) (λ r. same (values ◌⊕◌ ◌⊗◌ G (digits G.size G.coordinates r) cs) ys)
    ≡ G.size ^ G.coordinates
count_values {◌⊕◌} {◌⊗◌} G F entries cs ys bc by e independent =
    equal_counts _ _ (pred G.size) _ (let one = F.products.neutral_below in omega arith)
    (pairs ◌⊕◌ ◌⊗◌ G cs ys F entries (all_below cs bc) (all_below ys by) e independent)
