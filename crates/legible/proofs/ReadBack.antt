-- A right-aligned number is read back as that number.
-- Assumes nothing.
use mathlib.Core.Path.{◌≡◌, refl, ◌∙◌}
use mathlib.Core.Logic.{by_cases}
use mathlib.Core.Bool.{false}
use mathlib.Core.List.{List, [], ◌∷◌, ◌++◌}
use Prim.Native.Nat.{ℕ, zero, suc, ◌+◌, ◌-◌, ◌/◌, ◌%◌, ◌≤◌, ◌<◌}
use native.Mathlib.Decide.{dec_lt}
use native.Mathlib.Nat.{le_refl}
use native.Mathlib.Omega.{arith}
use borrow.Author.Tests.{ne_eqb}
use lib.ListN.{length}
use Rattle.decimals.specs.Decimals.{decimal_digits}
use Rattle.decimals.proofs.Decimals.{decimal_one, decimal_more, length_one, length_more}
use Rattle.words.specs.Words.{is_gap, words, numbers, reading}
use Rattle.words.proofs.Cuts.{Solid, solid_snoc, words_last, words_skip}
use Rattle.words.proofs.RoundTrip.{read_back, number_back}
use Rattle.page_text.specs.Pages.{blanks, right_aligned}

-- the byte of a digit is no gap
digit_solid : (d : ℕ) → is_gap (48 + d) ≡ false
unfolding is_gap
digit_solid d = rw (ne_eqb (48 + d) 32 (λ e. omega arith), ne_eqb (48 + d) 9 (λ e. omega arith), ne_eqb (48 + d) 10 (λ e. omega arith))

-- nor is any digit of a number
digits_solid : (most n : ℕ) → n ≤ most → Solid (decimal_digits n)
digits_solid zero n h = rw (decimal_one n (omega arith)) (digit_solid n, tt)
digits_solid (suc most) n h =
    by_cases (dec_lt n 10)
    (λ (e : n < 10). rw (decimal_one n e) (digit_solid n, tt))
    (λ e.
    let big : 10 ≤ n = omega arith in
    rw (decimal_more n big)
    (solid_snoc (decimal_digits (n / 10)) (48 + n % 10) (digits_solid most (n / 10) (omega arith)) (digit_solid (n % 10))))

-- there is one at least
digits_some : (n : ℕ) → 1 ≤ length (decimal_digits n)
digits_some n =
    by_cases (dec_lt n 10) (λ (e : n < 10). omega (arith, length_one n e)) (λ e. omega (arith, length_more n (omega arith)))

-- so they are one word
one_word : (word : List ℕ) → 1 ≤ length word → Solid word → words word ≡ word ∷ []
one_word [] h s = absurd (omega arith)
one_word (b ∷ bs) h s = words_last b bs s

-- blanks before a word make no other
words_blanks : (k : ℕ) (word : List ℕ) → words (blanks k ++ word) ≡ words word
unfolding is_gap
words_blanks zero word = refl
words_blanks (suc k) word = words_skip 32 (blanks k ++ word) refl ∙ words_blanks k word

pub reads_back : (w n : ℕ) → n ≤ 65535 → reading (right_aligned w n) ≡ numbers (n ∷ [])
unfolding reading right_aligned
reads_back w n h =
    rw (
      words_blanks (w - length (decimal_digits n)) (decimal_digits n),
      one_word (decimal_digits n) (digits_some n) (digits_solid n n (le_refl n)),
      number_back n h,
      read_back n,
    )
