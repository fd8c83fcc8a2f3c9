-- The place of a pair in the order of pairs (02, K8): it goes up by one along the order, from 1 to n × (n − 1) ÷ 2, and no two pairs share one.
-- Assumes nothing.
use mathlib.Core.Path.{◌≡◌, refl, sym, ◌∙◌, ap}
use mathlib.Core.Logic.{by_cases}
use Prim.Native.Nat.{ℕ, zero, suc, ◌+◌, ◌-◌, ◌*◌, ◌/◌, ◌≤◌, ◌<◌}
use native.Mathlib.Decide.{dec_lt}
use native.Mathlib.Nat.{le_refl, le_trans, le_dest, ne_of_lt, lt_of_le_of_lt, mul-zero, mul-suc, suc-mul, mul-le-mul}
use native.Mathlib.Numerals.{add-one}
use native.Mathlib.Omega.{arith}
use borrow.Author.Tests.{lt-ltb, le-ltb}
use Rattle.finite.specs.Sum.{sum}
use Rattle.finite.specs.Pairs.{next_pair, ordinal, Ordinals}
use Rattle.finite.specs.declared.pairs.IndexPair.{IndexPair}
use Rattle.finite.proofs.Sums.{sum_split, sum_zero, sum_le}

-- how many of the pairs of n have their first number below c
abbrev pairs_before : ℕ → ℕ → ℕ
pairs_before n c = sum c (λ a. n - 1 - a)

-- those of c itself come after them
before_more : (n c : ℕ) → pairs_before n (c + 1) ≡ pairs_before n c + (n - 1 - c)
unfolding sum
before_more n c = rw add-one

twice_before : (n c : ℕ) → c ≤ n → 2 * pairs_before n c + c * c + c ≡ 2 * (n * c)
unfolding sum
twice_before n zero h = rw mul-zero
twice_before n (suc c) h = rw (mul-suc n c, suc-mul c (suc c), mul-suc c c) (omega (arith, twice_before n c (omega arith)))

-- all pairs
all_pairs : (n : ℕ) → pairs_before n n ≡ n * (n - 1) / 2
all_pairs zero = omega (arith, twice_before 0 0 (le_refl 0))
all_pairs (suc k) =
    let less : suc k - 1 ≡ k = omega arith in
    omega (arith, twice_before (suc k) (suc k) (le_refl (suc k)), mul-suc (suc k) k, ap (λ j. suc k * j) less)

-- 128 numbers have 8,128 pairs
pub few_pairs : {n : ℕ} → n ≤ 128 → n * (n - 1) / 2 ≤ 8128
few_pairs {n} h = let less : n - 1 ≤ 127 = omega arith in omega (arith, mul-le-mul h less)

-- no pair has its first number past n − 1
before_past : (n c : ℕ) → n ≤ c + 1 → pairs_before n c ≡ pairs_before n n
before_past n c h =
    let (k, e) = le_dest h in
    let zeros : sum k (λ y. n - 1 - (n + y)) ≡ 0 = sum_zero k (λ y l. omega arith) in
    omega (arith, before_more n c, ap (pairs_before n) e, sum_split n k (λ a. n - 1 - a), zeros)

module _ (n : ℕ) where
  -- the pairs up to c-d are among those of numbers up to c
  within_first : (c d : ℕ) → d < n → ordinal n c d ≤ pairs_before n (c + 1)
  unfolding ordinal
  within_first c d h = rw (before_more n c) (omega arith)

  earlier_less : (a b c d : ℕ) → b < n → c < d → a < c → ordinal n a b < ordinal n c d
  unfolding ordinal
  earlier_less a b c d hb hd h =
      lt_of_le_of_lt (le_trans (within_first a b hb) (sum_le {n = a + 1} {m = c} (λ i. n - 1 - i) (omega arith))) (omega arith)

  pub ordinal_most : (c d : ℕ) → c < d → d < n → ordinal n c d ≤ n * (n - 1) / 2
  ordinal_most c d h hd = rw (← all_pairs n) (le_trans (within_first c d hd) (sum_le (λ i. n - 1 - i) (omega arith)))

  -- the place past the last pair
  pub ordinal_past : (c d : ℕ) → n ≤ d → d ≡ c + 1 → ordinal n c d ≡ n * (n - 1) / 2 + 1
  unfolding ordinal
  ordinal_past c d h e = omega (arith, all_pairs n, before_past n c (omega arith))

  goes_up : (p : IndexPair) → p.first < p.second → p.second < n
      → ordinal n (next_pair n p).first (next_pair n p).second ≡ ordinal n p.first p.second + 1
  unfolding next_pair ordinal
  goes_up p o h =
      by_cases (dec_lt (p.second + 1) n)
      (λ l. rw (lt-ltb (p.second + 1) n l) (omega arith))
      (λ l. rw (le-ltb (p.second + 1) n (omega arith), before_more n p.first) (omega arith))

  apart : (a b c d : ℕ) → a < b → b < n → c < d → d < n → ordinal n a b ≡ ordinal n c d → (a ≡ c) × (b ≡ d)
  unfolding ordinal
  apart a b c d ab hb cd hd e =
      by_cases (dec_lt a c)
      (λ l. absurd (ne_of_lt (earlier_less a b c d hb cd l) e))
      (λ l. by_cases (dec_lt c a)
      (λ k. absurd (ne_of_lt (earlier_less c d a b hd ab k) (sym e)))
      (λ k. let same : a ≡ c = omega arith in (same, omega (arith, e, ap (pairs_before n) same))))

  pub ordinals : Ordinals n
  unfolding ordinal sum
  ordinals =
      record {
        starts = refl;
        goes_up = goes_up;
        ends = λ h. sym (before_more n (n - 2)) ∙ before_past n (n - 2 + 1) (omega arith) ∙ all_pairs n;
        apart = apart;
      }
