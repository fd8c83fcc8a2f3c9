-- Reading digits base s as one number is one to one: `digits` and `numeral` undo each other on lists of n digits and numbers below s ^ n.
-- Assumes nothing.
use mathlib.Core.Path.{◌≡◌, refl, sym, ◌∙◌, ap, ap₂, subst}
use mathlib.Core.List.{List, ◌∷◌, ◌++◌}
use Prim.Native.Nat.{ℕ, zero, suc, ◌+◌, ◌*◌, ◌/◌, ◌%◌, ◌^◌, ◌<◌}
use native.Mathlib.Nat.{zero-add, suc-add, add_comm, div-div-eq-div-mul, pow-zero, pow-succ', one-le-pow, mod-lt, mod-one, mod-eq_of_lt, mul_assoc, le_refl, mul-add-div_right, mul-add-mod_self_right, zero-div, zero-mod}
use lib.Arith.{digits_lt, digits_div, mod-mul}
use lib.Dec.{T, eqb, eqb→eq, eqb_refl}
use lib.ListN.{length, replicate}
use lib.Pow.{pow-add}
use Rattle.finite.specs.Digits.{digits, numeral}
use Rattle.finite.proofs.Tests.{agree}
use Rattle.finite.proofs.Lists.{Below, none, more, same, same→eq, eq→same}

pub digits_length : (s n v : ℕ) → length (digits s n v) ≡ n
unfolding digits
digits_length s zero v = refl
digits_length s (suc n) v = ap suc (digits_length s n v)

-- the digits of 0
pub digits_zero : (s n : ℕ) → digits s n 0 ≡ replicate n 0
unfolding digits
digits_zero s zero = refl
digits_zero s (suc n) = ap₂ ◌∷◌ (ap (λ d. d % s) (zero-div (s ^ n)) ∙ zero-mod s) (digits_zero s n)

-- the digits above the last n, and these
pub digits_append : (s m n v : ℕ) → digits s (m + n) v ≡ digits s m (v / s ^ n) ++ digits s n v
unfolding digits
digits_append s zero n v = rw zero-add
digits_append s (suc m) n v =
    rw (suc-add, digits_append s m n v, div-div-eq-div-mul, ← pow-add s n m, add_comm n m)

pub numeral_below : {s : ℕ} {xs : List ℕ} → Below s xs → numeral s xs < s ^ length xs
unfolding numeral
numeral_below {s} none = rw pow-zero (le_refl 1)
numeral_below {s} (more h b) = rw pow-succ' (digits_lt h (numeral_below b))

module _ {s : ℕ} (positive : 0 < s) where
  pub digits_below : (n v : ℕ) → Below s (digits s n v)
  unfolding digits
  digits_below zero v = none
  digits_below (suc n) v = more (mod-lt (v / s ^ n) positive) (digits_below n v)

  -- the last n digits do not see a multiple of s ^ n
  pub digits_low : (n q r : ℕ) → digits s n (q * s ^ n + r) ≡ digits s n r
  unfolding digits
  digits_low zero q r = refl
  digits_low (suc n) q r =
      rw (pow-succ' s n, ← mul_assoc q s (s ^ n))
      (ap₂ ◌∷◌
      (ap (λ d. d % s) (mul-add-div_right (one-le-pow n s positive) (q * s) r) ∙ mul-add-mod_self_right q s (r / s ^ n))
      (digits_low n (q * s) r))

  -- the first digit and the others
  pub digits_cons : (n : ℕ) {x r : ℕ} → x < s → r < s ^ n → digits s (suc n) (x * s ^ n + r) ≡ x ∷ digits s n r
  unfolding digits
  digits_cons n {x} {r} h l = ap₂ ◌∷◌ (ap (λ q. q % s) (digits_div x l) ∙ mod-eq_of_lt h) (digits_low n x r)

  pub digits_numeral : {xs : List ℕ} → Below s xs → digits s (length xs) (numeral s xs) ≡ xs
  unfolding numeral
  digits_numeral none = unfold digits in refl
  digits_numeral (more {x} {xs} h b) =
      digits_cons (length xs) h (numeral_below b) ∙ ap (λ l. x ∷ l) (digits_numeral b)

  numeral_mod : (n v : ℕ) → numeral s (digits s n v) ≡ v % s ^ n
  unfolding numeral digits
  numeral_mod zero v = rw pow-zero (sym (mod-one v))
  numeral_mod (suc n) v =
      rw (digits_length s n v, numeral_mod n v, pow-succ' s n) (sym (mod-mul v positive (one-le-pow n s positive)))

  pub numeral_digits : (n v : ℕ) → v < s ^ n → numeral s (digits s n v) ≡ v
  numeral_digits n v h = numeral_mod n v ∙ mod-eq_of_lt h

  pub digits_injective : (n : ℕ) {v w : ℕ} → v < s ^ n → w < s ^ n → digits s n v ≡ digits s n w → v ≡ w
  digits_injective n {v} {w} hv hw e = sym (numeral_digits n v hv) ∙ ap (numeral s) e ∙ numeral_digits n w hw

  -- a number is read from its digits, and from no others
  pub numeral_test : {n v : ℕ} {xs : List ℕ} → Below s xs → length xs ≡ n → v < s ^ n → eqb (numeral s xs) v ≡ same xs (digits s n v)
  numeral_test {n} {v} {xs} b e h =
      agree (eqb (numeral s xs) v) (same xs (digits s n v))
      (λ t. eq→same (sym (digits_numeral b) ∙ ap₂ (digits s) e (eqb→eq (numeral s xs) v t)))
      (λ t. subst (λ w. T (eqb (numeral s xs) w)) (ap (numeral s) (same→eq xs (digits s n v) t) ∙ numeral_digits n v h) (eqb_refl (numeral s xs)))
