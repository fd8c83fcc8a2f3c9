-- Laws of `decimal_digits`: one digit, or the last digit after the others; and how many there are.
use mathlib.Core.Path.{◌≡◌, refl}
use mathlib.Core.Logic.{by_cases}
use mathlib.Core.List.{[], ◌∷◌, ◌++◌}
use Prim.Native.Nat.{ℕ, zero, suc, ◌+◌, ◌/◌, ◌%◌, ◌^◌, ◌≤◌, ◌<◌}
use native.Mathlib.Nat.{pow-suc, div-lt_iff_lt-mul, le_refl}
use native.Mathlib.Decide.{dec_lt}
use native.Mathlib.Omega.{arith}
use borrow.Author.Tests.{lt-ltb, le-ltb}
use lib.ListN.{length, length-append}
use Rattle.decimals.specs.Decimals.{digits_within, decimal_digits}

-- The bound on the number of digits does not matter where it is large enough.
within_same : (f g n : ℕ) → n ≤ f → n ≤ g → digits_within f n ≡ digits_within g n
within_same zero zero n h k = refl
within_same zero (suc g) n h k = rw (lt-ltb n 10 (omega arith))
within_same (suc f) zero n h k = rw (lt-ltb n 10 (omega arith))
within_same (suc f) (suc g) n h k =
    by_cases (dec_lt n 10) (λ e. rw (lt-ltb n 10 e))
    (λ e. let big : 10 ≤ n = omega arith in rw (le-ltb n 10 big, within_same f g (n / 10) (omega arith) (omega arith)))

pub decimal_one : (n : ℕ) → n < 10 → decimal_digits n ≡ (48 + n) ∷ []
unfolding decimal_digits
decimal_one zero h = refl
decimal_one (suc n) h = rw (lt-ltb (suc n) 10 h)

pub decimal_more : (n : ℕ) → 10 ≤ n → decimal_digits n ≡ decimal_digits (n / 10) ++ ((48 + n % 10) ∷ [])
unfolding decimal_digits
decimal_more zero h = absurd (omega arith)
decimal_more (suc n) h = rw (le-ltb (suc n) 10 h, within_same n (suc n / 10) (suc n / 10) (omega arith) (le_refl _))

pub length_one : (n : ℕ) → n < 10 → length (decimal_digits n) ≡ 1
length_one n h = rw (decimal_one n h)

pub length_more : (n : ℕ) → 10 ≤ n → length (decimal_digits n) ≡ length (decimal_digits (n / 10)) + 1
length_more n h = rw (decimal_more n h) (length-append (decimal_digits (n / 10)) ((48 + n % 10) ∷ []))

-- A number below 10 to the power k + 1 has at most k + 1 digits.
tenth : (k n : ℕ) → n < 10 ^ suc (suc k) → n / 10 < 10 ^ suc k
tenth k n h = (div-lt_iff_lt-mul {k = 10} (omega arith)).1 (rw pow-suc at h)

pub decimal_length : (k n : ℕ) → n < 10 ^ suc k → length (decimal_digits n) ≤ suc k
decimal_length zero n h = omega (arith, length_one n h)
decimal_length (suc k) n h =
    by_cases (dec_lt n 10) (λ e. omega (arith, length_one n e))
    (λ e. omega (arith, length_more n (omega arith), decimal_length k (n / 10) (tenth k n h)))

-- A byte has at most 3 digits, and a word of 64 bits at most 20.
pub decimal_byte : (n : ℕ) → n < 2 ^ 8 → length (decimal_digits n) ≤ 3
decimal_byte n h = decimal_length 2 n (omega arith)

pub decimal_word : (n : ℕ) → n < 2 ^ 64 → length (decimal_digits n) ≤ 20
decimal_word n h = decimal_length 19 n (omega arith)
