-- The tuple of a run is the sum of two others, and so is its product with a column: what lies behind the runs that FIELD adds up.
-- Assumes nothing.
use mathlib.Core.Path.{◌≡◌, sym, ◌∙◌, ap, ap₂}
use mathlib.Core.List.{List, ◌∷◌, ◌++◌, map, map-append}
use Prim.Native.Nat.{ℕ, zero, suc, ◌+◌, ◌-◌, ◌*◌, ◌^◌, ◌≤◌, ◌<◌}
use native.Mathlib.Nat.{add-zero, zero-add, zero-mul, suc-add, pow-succ', mul-lt-mul_of_pos_right, one-le-pow}
use native.Mathlib.Omega.{arith}
use lib.Arith.{digits_div}
use lib.ListN.{length-map}
use Rattle.finite.specs.Digits.{digits}
use Rattle.finite.specs.Lists.{from}
use Rattle.finite.proofs.Digits.{digits_append, digits_length, digits_zero, digits_below, digits_low, digits_cons}
use Rattle.finite.proofs.Lists.{Below, below_map, below_from, length_from}
use Rattle.galois.specs.Laws.{Field}
use Rattle.galois.specs.Combination.{combination}
use Rattle.galois.proofs.FieldAlgebra.{zero_below, zero_plus, plus_zero, product_below, combination_below, combination_append, zero_coefficients}

from_append : (a m k : ℕ) → from a (m + k) ≡ from a m ++ from (a + m) k
unfolding from
from_append a zero k = rw (zero-add, add-zero)
from_append a (suc m) k = let same : suc a + m ≡ a + suc m = omega arith in rw (suc-add, from_append (suc a) m k, same)

module _ {s : ℕ} {◌⊕◌ ◌⊗◌ : ℕ → ℕ → ℕ} (F : Field s ◌⊕◌ ◌⊗◌) where
  infixl 65 ◌⊕◌
  infixl 70 ◌⊗◌
  infix 75 ◌·◌
  abbrev ◌·◌ : List ℕ → List ℕ → ℕ
  ks · xs = combination ◌⊕◌ ◌⊗◌ ks xs

  -- a column, by its elements
  module _ {t : ℕ} {f : ℕ → ℕ} (elements : (r : ℕ) → r < t → f r < s) where
    -- the tuple of number v times the column
    abbrev pub value : ℕ → ℕ
    value v = digits s t v · map f (from 0 t)

    part_below : (a k : ℕ) → a + k ≤ t → Below s (map f (from a k))
    part_below a k h = below_map elements (below_from a k h)

    -- the digits above weight s ^ k, and those below it
    value_split : (m k : ℕ) → m + k ≡ t → (q e : ℕ) → e < s ^ k
        → value (q * s ^ k + e) ≡ digits s m q · map f (from 0 m) ⊕ digits s k e · map f (from m k)
    value_split m k whole q e h =
        let positive = zero_below F in
        rw (← whole, digits_append s m k (q * s ^ k + e), digits_div q h, digits_low positive k q e, from_append 0 m k, zero-add, map-append f (from 0 m) (from m k))
        (combination_append F (digits_below positive m q) (part_below 0 m (omega arith)) (digits_length s m q ∙ sym (length-map (from 0 m) f ∙ length_from 0 m))
        (digits_below positive k e) (part_below m k (omega arith)))

    -- a tuple with no digits below weight s ^ k
    value_high : (m k : ℕ) → m + k ≡ t → (q : ℕ) → value (q * s ^ k) ≡ digits s m q · map f (from 0 m)
    value_high m k whole q =
        ap value (sym (add-zero (q * s ^ k)))
        ∙ value_split m k whole q 0 (one-le-pow k s (zero_below F))
        ∙ ap (λ v. digits s m q · map f (from 0 m) ⊕ v) (ap (λ ks. ks · map f (from m k)) (digits_zero s k) ∙ zero_coefficients F k (part_below m k (omega arith)))
        ∙ plus_zero F (combination_below F (digits_below (zero_below F) m q) (part_below 0 m (omega arith)))

    -- and one with none above it
    value_low : (m k : ℕ) → m + k ≡ t → (e : ℕ) → e < s ^ k → value e ≡ digits s k e · map f (from m k)
    value_low m k whole e h =
        ap value (sym (ap (λ v. v + e) (zero-mul (s ^ k)) ∙ zero-add e))
        ∙ value_split m k whole 0 e h
        ∙ ap (λ v. v ⊕ digits s k e · map f (from m k)) (ap (λ ks. ks · map f (from 0 m)) (digits_zero s m) ∙ zero_coefficients F m (part_below 0 m (omega arith)))
        ∙ zero_plus F (combination_below F (digits_below (zero_below F) k e) (part_below m k (omega arith)))

    pub value_sum : (k : ℕ) → k ≤ t → (q e : ℕ) → e < s ^ k → value (q * s ^ k + e) ≡ value (q * s ^ k) ⊕ value e
    value_sum k h q e l =
        let whole : t - k + k ≡ t = omega arith in
        value_split (t - k) k whole q e l ∙ ap₂ ◌⊕◌ (sym (value_high (t - k) k whole q)) (sym (value_low (t - k) k whole e l))

    pub value_single : (k : ℕ) → k < t → (a : ℕ) → a < s → value (a * s ^ k) ≡ a ⊗ f (t - 1 - k)
    unfolding combination from
    value_single k h a l =
        let whole : t - 1 - k + suc k ≡ t = omega arith in
        let low : a * s ^ k < s ^ suc k = rw pow-succ' (mul-lt-mul_of_pos_right l (one-le-pow k s (zero_below F))) in
        let row = t - 1 - k in
        value_low row (suc k) whole (a * s ^ k) low
        ∙ ap (λ ks. ks · map f (from row (suc k)))
        (ap (digits s (suc k)) (sym (add-zero (a * s ^ k))) ∙ digits_cons (zero_below F) k l (one-le-pow k s (zero_below F)) ∙ ap (λ ks. a ∷ ks) (digits_zero s k))
        ∙ ap (λ v. a ⊗ f row ⊕ v) (zero_coefficients F k (part_below (suc row) k (omega arith)))
        ∙ plus_zero F (product_below F l (elements row (omega arith)))
