-- Bounds on small powers.
use mathlib.Core.List.{List, [], ◌∷◌}
use Prim.Native.Nat.{ℕ, ◌*◌, ◌^◌, ◌≤◌, ◌<◌}
use native.Mathlib.Nat.{pow-le-pow_left, pow-le-pow_right, le_trans, lt_of_le_of_lt, lt_of_lt_of_le, mul-le-mul}
use native.Mathlib.Omega.{arith}
use native.Mathlib.Decide.{dec_le}
use lib.Dec.{lit<, lit≤}
use lib.ListN.{length}
use Rattle.order.specs.Order.{total, All, FactorWidth}

-- A power with base and exponent up to 9 is far below 2^32.
pub small_power : (s n : ℕ) → s ≤ 9 → n ≤ 9 → s ^ n ≤ 4294967296
small_power s n hs hn = le_trans (le_trans (pow-le-pow_left hs n) (pow-le-pow_right {n = 9} (omega arith) hn)) (lit≤ tt)

-- Of a base from 2 on, no exponent over 6 has a power of at most 64.
pub large_power : (s u : ℕ) → 2 ≤ s → 6 < u → 64 < s ^ u
large_power s u hs hu =
    lt_of_lt_of_le (lit< tt) (le_trans (pow-le-pow_right {n = 2} (omega arith) hu) (pow-le-pow_left hs u))

-- So the widths of factors are at most 6.
pub width_small : (s u : ℕ) → 2 ≤ s → FactorWidth s u → u ≤ 6
width_small s u hs h =
    elim (dec_le u 6) [
      | yes small ↦ small
      | no large ↦ absurd (omega (arith, large_power s u hs (omega arith)))
    ]

-- And the sum of n widths is at most 6 × n.
pub total_small : (s : ℕ) (us : List ℕ) → 2 ≤ s → All (FactorWidth s) us → total us ≤ 6 * length us
total_small s [] hs h = omega arith
total_small s (u ∷ us) hs h = omega (arith, width_small s u hs h.0, total_small s us hs h.1)

-- The number of entries of a table or matrix, and of a generator, fits.
pub product_fits : {a b : ℕ} → a ≤ 512 → b ≤ 768 → a * b < 2 ^ 64
product_fits ha hb = lt_of_le_of_lt (mul-le-mul ha hb) (lit< tt)
