-- The sums of levels, digit by digit: how they are found one from another, and that a run of FIELD is the sum of two before it.
-- Assumes nothing.
use mathlib.Core.Path.{◌≡◌, refl, sym, ap}
use mathlib.Core.List.{List}
use Prim.Native.Nat.{ℕ, zero, suc, ◌+◌, ◌*◌, ◌/◌, ◌%◌, ◌^◌, ◌≤◌, ◌<◌}
use native.Mathlib.Nat.{pow-zero, pow-suc, zero-div, zero-mod, div-lt_iff_lt-mul, mod-lt, lt_of_lt_of_le, le_refl, one-le-pow, zero-mul, div-lt_self, div-le_self, lt_of_le_of_lt, div-add-mod'}
use native.Mathlib.Omega.{arith}
use lib.Arith.{digits_lt, digits_div, digits_mod}
use lib.Dec.{T, lit≤}
use lib.ListN.{get_or, set, replicate, length-replicate, get_or-replicate}
use Rattle.finite.proofs.Tabulated.{tabulated_more}
use Rattle.galois.specs.Arithmetic.{field_size, field_sum, field_product}
use Rattle.galois.specs.Laws.{Field}
use Rattle.galois.proofs.Fields.{field}
use Rattle.galois.proofs.FieldAlgebra.{zero_below, zero_plus, sum_below}
use Rattle.generated_runs.specs.LevelSums.{digit_sums, SumsOf}

module _ (s : ℕ) (size : T (field_size s)) where
  laws : Field s (field_sum s) (field_product s)
  laws = field s size

  positive : 0 < s
  positive = zero_below laws

  zero_sums : (n : ℕ) → digit_sums s n 0 0 ≡ 0
  unfolding digit_sums
  zero_sums zero = refl
  zero_sums (suc n) = rw (zero-div s, zero-mod s, zero_sums n, zero_plus laws positive) (omega arith)

  less_digits : (w : ℕ) {x : ℕ} → x < s ^ suc w → x / s < s ^ w
  less_digits w h = (div-lt_iff_lt-mul positive).1 (rw pow-suc at h)

  -- digits that are zero add nothing
  pub sums_stable : (w n x y : ℕ) → w ≤ n → x < s ^ w → y < s ^ w → digit_sums s n x y ≡ digit_sums s w x y
  unfolding digit_sums
  sums_stable zero n x y h hx hy =
      let no_x : x ≡ 0 = omega (arith, rw pow-zero at hx) in
      let no_y : y ≡ 0 = omega (arith, rw pow-zero at hy) in
      rw (no_x, no_y) (zero_sums n)
  sums_stable (suc w) zero x y h hx hy = absurd (omega arith)
  sums_stable (suc w) (suc n) x y h hx hy =
      ap (λ v. v * s + field_sum s (x % s) (y % s)) (sums_stable w n (x / s) (y / s) (omega arith) (less_digits w hx) (less_digits w hy))

  -- a sum has no more digits
  sums_below : (w x y : ℕ) → digit_sums s w x y < s ^ w
  unfolding digit_sums
  sums_below zero x y = rw pow-zero (le_refl 1)
  sums_below (suc w) x y = rw pow-suc (digits_lt (sums_below w (x / s) (y / s)) (sum_below laws (mod-lt x positive) (mod-lt y positive)))

  -- by the digits before the last, and the last
  pub sums_next : (w x y : ℕ) → x < s ^ w → y < s ^ w → digit_sums s w x y ≡ digit_sums s w (x / s) (y / s) * s + field_sum s (x % s) (y % s)
  unfolding digit_sums
  sums_next zero x y hx hy =
      let no_x : x ≡ 0 = omega (arith, rw pow-zero at hx) in
      let no_y : y ≡ 0 = omega (arith, rw pow-zero at hy) in
      rw (no_x, no_y, zero-mod s, zero_plus laws positive) (omega arith)
  sums_next (suc w) x y hx hy =
      ap (λ v. v * s + field_sum s (x % s) (y % s)) (sym (sums_stable w (suc w) (x / s) (y / s) (omega arith) (less_digits w hx) (less_digits w hy)))

  -- ---- the sums, one after the other

  module _ (w : ℕ) where
    -- the sum of no digits, or of zeros, stands at the first place
    pub sums_none : SumsOf s w 1 (replicate 4096 0)
    sums_none =
        record {
          places = length-replicate {A = ℕ} 4096 0;
          each = λ q h.
              let first : q ≡ 0 = omega arith in
              rw (first, zero-div (s ^ w), zero-mod (s ^ w), zero_sums w) (get_or-replicate 4096 0 0 0 (lit≤ tt));
        }

    -- the place of the digits before the last
    abbrev pub earlier : ℕ → ℕ
    earlier q = q / s ^ w / s * s ^ w + q % s ^ w / s

    module _ {q : ℕ} (more : 0 < q) (within : q < s ^ w * s ^ w) where
      some : 0 < s ^ w
      some = one-le-pow w s positive

      first_in : q / s ^ w < s ^ w
      first_in = (div-lt_iff_lt-mul some).1 within

      second_in : q % s ^ w < s ^ w
      second_in = mod-lt q some

      pub earlier_in : earlier q < q
      earlier_in = before (q / s ^ w) (q % s ^ w) (div-add-mod' q (s ^ w)) second_in
        where
          before : (x y : ℕ) → x * s ^ w + y ≡ q → y < s ^ w → x / s * s ^ w + y / s < q
          before zero y e h =
              let y_more : 0 < y = omega (arith, e, zero-mul (s ^ w)) in
              rw (zero-div s) (omega (arith, e, zero-mul (s ^ w), div-lt_self y_more laws.products.neutral_below))
          before (suc x) y e h =
              omega (arith, e, digits_lt (div-lt_self {n = suc x} (omega arith) laws.products.neutral_below) (lt_of_le_of_lt (div-le_self y s) h))

      -- the sum is that of the digits before the last, which is there, and the last
      sum_found : {sums : List ℕ} → SumsOf s w q sums
          → get_or sums (earlier q) 0 * s + field_sum s (q / s ^ w % s) (q % s ^ w % s) ≡ digit_sums s w (q / s ^ w) (q % s ^ w)
      sum_found f =
          let low : q % s ^ w / s < s ^ w = lt_of_le_of_lt (div-le_self (q % s ^ w) s) second_in in
          rw (f.each (earlier q) earlier_in, digits_div (q / s ^ w / s) low, digits_mod (q / s ^ w / s) low)
          (sym (sums_next w (q / s ^ w) (q % s ^ w) first_in second_in))

      pub sums_more : {sums : List ℕ} → SumsOf s w q sums → q < 4096
          → SumsOf s w (q + 1) (set sums q (get_or sums (earlier q) 0 * s + field_sum s (q / s ^ w % s) (q % s ^ w % s)))
      sums_more f fits = tabulated_more f fits (sum_found f)

      -- and below 64
      pub sum_small : {sums : List ℕ} → SumsOf s w q sums → s ^ w ≤ 64
          → get_or sums (earlier q) 0 * s + field_sum s (q / s ^ w % s) (q % s ^ w % s) < 64
      sum_small f few = rw (sum_found f) (lt_of_lt_of_le (sums_below w (q / s ^ w) (q % s ^ w)) few)
