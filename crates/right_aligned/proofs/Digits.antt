-- A number below 1,000 right-aligned in 3 is its hundreds and its tens, each a blank where there are none, and its last digit.
-- Assumes nothing.
use mathlib.Core.Path.{◌≡◌}
use mathlib.Core.Logic.{by_cases}
use mathlib.Core.List.{[], ◌∷◌}
use Prim.Native.Nat.{ℕ, ◌+◌, ◌/◌, ◌%◌, ◌≤◌, ◌<◌}
use native.Mathlib.Decide.{dec_lt}
use native.Mathlib.Omega.{arith}
use borrow.Author.Tests.{eq-eqb, ne_eqb}
use Rattle.decimals.proofs.Decimals.{decimal_one, decimal_more}
use Rattle.page_text.specs.Pages.{right_aligned}
use Rattle.right_aligned.specs.Digits.{leading}

-- no digit, and one
pub leading_none : (n : ℕ) → n ≡ 0 → leading n ≡ 32
unfolding leading
leading_none n e = rw (eq-eqb n 0 e)

pub leading_some : (n : ℕ) → (n ≡ 0 → ⊥) → leading n ≡ 48 + n % 10
unfolding leading
leading_some n e = rw (ne_eqb n 0 e)

-- the digits of a number below 10, 100 and 1,000
one_digit : (n : ℕ) → n < 10 → right_aligned 3 n ≡ leading (n / 100) ∷ leading (n / 10) ∷ (48 + n % 10) ∷ []
unfolding right_aligned
one_digit n h =
    let same : n % 10 ≡ n = omega arith in
    rw (decimal_one n h, leading_none (n / 100) (omega arith), leading_none (n / 10) (omega arith), same)

two_digits : (n : ℕ) → 10 ≤ n → n < 100 → right_aligned 3 n ≡ leading (n / 100) ∷ leading (n / 10) ∷ (48 + n % 10) ∷ []
unfolding right_aligned
two_digits n l h =
    let same : n / 10 % 10 ≡ n / 10 = omega arith in
    rw (decimal_more n l, decimal_one (n / 10) (omega arith), leading_none (n / 100) (omega arith), leading_some (n / 10) (omega arith), same)

three_digits : (n : ℕ) → 100 ≤ n → n < 1000 → right_aligned 3 n ≡ leading (n / 100) ∷ leading (n / 10) ∷ (48 + n % 10) ∷ []
unfolding right_aligned
three_digits n l h =
    let same : n / 100 % 10 ≡ n / 10 / 10 = omega arith in
    rw (decimal_more n (omega arith), decimal_more (n / 10) (omega arith), decimal_one (n / 10 / 10) (omega arith), leading_some (n / 100) (omega arith), leading_some (n / 10) (omega arith), same)

pub in_three : (n : ℕ) → n < 1000 → right_aligned 3 n ≡ leading (n / 100) ∷ leading (n / 10) ∷ (48 + n % 10) ∷ []
in_three n h =
    by_cases (dec_lt n 10) (λ (one : n < 10). one_digit n one)
    (λ ten. by_cases (dec_lt n 100) (λ (two : n < 100). two_digits n (omega arith) two) (λ hundred. three_digits n (omega arith) h))
