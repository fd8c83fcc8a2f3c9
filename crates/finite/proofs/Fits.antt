-- Products that fit a machine word, and places within the cells.
-- Assumes nothing.
use mathlib.Core.Path.{◌≡◌}
use Prim.Native.Nat.{ℕ, ◌+◌, ◌*◌, ◌^◌, ◌≤◌, ◌<◌}
use native.Mathlib.Nat.{le_of_lt, le_trans, lt_of_le_of_lt, lt_of_lt_of_le, suc-mul, mul-le-mul, mul-le-mul_right}
use native.Mathlib.Numerals.{add-one}
use native.Mathlib.Omega.{arith}
use lib.Arith.{digits_lt}
use lib.Dec.{T, ltb, ltb→lt}
use mir.Syntax.{Width, w64}
use mir.Val.{Fits, bits}

-- a number within a bound times one that fits a width
pub product_below : {a b m : ℕ} {w : Width} (k : ℕ) → a ≤ m → Fits w b → T (ltb (m * 2 ^ bits w) k) → a * b < k
product_below {m = m} {w = w} k ha hb t = lt_of_le_of_lt (mul-le-mul ha (le_of_lt hb.fits)) (ltb→lt (m * 2 ^ bits w) k t)

pub product_fits : {a b m : ℕ} {w : Width} → a ≤ m → Fits w b → T (ltb (m * 2 ^ bits w) (2 ^ 64)) → Fits w64 (a * b)
product_fits ha hb t = record { fits = product_below (2 ^ 64) ha hb t }

-- a place in a run
pub place_below : {r runs c columns n : ℕ} → r < runs → c < columns → runs * columns ≤ n → r * columns + c < n
place_below hr hc whole = lt_of_lt_of_le (digits_lt hr hc) whole

-- where the next run starts
pub run_more : (r columns : ℕ) → (r + 1) * columns ≡ r * columns + columns
run_more r columns = rw (add-one, suc-mul)

pub run_end : (r columns : ℕ) {runs n : ℕ} → r < runs → runs * columns ≤ n → r * columns + columns ≤ n
run_end r columns h whole = le_trans (rw (← suc-mul r columns) (mul-le-mul_right columns h)) whole

-- where a counter of two bytes lies
pub offset_fits : {k : ℕ} → k < 4096 → Fits w64 (k * 2)
offset_fits h = record { fits = omega arith }
