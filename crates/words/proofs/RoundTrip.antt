-- Reading and printing agree: the digits of a number up to 65,535 are a word that the scanner takes for that number.
use mathlib.Core.Path.{◌≡◌}
use mathlib.Core.Bool.{true}
use Prim.Native.Nat.{ℕ, zero, suc, ◌+◌, ◌/◌, ◌%◌, ◌≤◌, ◌<◌}
use native.Mathlib.Nat.{le_refl}
use native.Mathlib.Omega.{arith}
use borrow.Author.Tests.{le-leb, ltb-true, ltb-false}
use lib.Dec.{ltb}
use Rattle.decimals.proofs.Decimals.{decimal_one, decimal_more}
use Rattle.words.specs.Words.{is_digit, all_digits, decimal, is_number}
use Rattle.decimals.specs.Decimals.{decimal_digits}
use Rattle.lines.proofs.Cases.{by_cases}
use Rattle.words.proofs.Cuts.{decimal_snoc, digits_snoc}

-- The byte of a digit.
digit : (d : ℕ) → d < 10 → is_digit (48 + d) ≡ true
unfolding is_digit
digit d h = rw (le-leb 48 (48 + d) (omega arith), le-leb (48 + d) 57 (omega arith))

-- What is read back.
abbrev Back : ℕ → Type 0
Back n = (decimal (decimal_digits n) ≡ n) × (all_digits (decimal_digits n) ≡ true)

one_back : (n : ℕ) → n < 10 → Back n
unfolding decimal
one_back n h = rw (decimal_one n h) (omega arith, rw (digit n h))

more_back : (n : ℕ) → 10 ≤ n → Back (n / 10) → Back n
more_back n h r =
    rw (decimal_more n h)
    (rw (decimal_snoc, r.0) (omega arith), rw (digits_snoc, r.1) (digit (n % 10) (omega arith)))

back : (most n : ℕ) → n ≤ most → Back n
back zero n h = one_back n (omega arith)
back (suc most) n h =
    by_cases (ltb n 10) (λ e. one_back n (ltb-true n 10 e))
    λ e. let big = ltb-false n 10 e in more_back n big (back most (n / 10) (omega arith))

pub read_back : (n : ℕ) → decimal (decimal_digits n) ≡ n
read_back n = (back n n (le_refl n)).0

pub number_back : (n : ℕ) → n ≤ 65535 → is_number (decimal_digits n) ≡ true
unfolding is_number
number_back n h = rw ((back n n (le_refl n)).1, read_back n) (le-leb n 65535 h)
