-- The order of pairs of columns or factors, counted from 0: 0-1, 0-2, .., then 1-2, and so on (document 01, question 4), and the place of each in it
-- (document 02, K8).
use Rattle.std.specs.Prelude.{◌≡◌, cond, ℕ, ◌+◌, ◌-◌, ◌*◌, ◌/◌, ◌≤◌, ◌<◌, ltb}
use Rattle.finite.specs.Sum.{sum}
use Rattle.finite.specs.declared.pairs.IndexPair.{IndexPair}

abbrev pub start_pair : IndexPair
start_pair = record { first = 0; second = 1; ordinal = 1 }

-- the pair that follows, of n
unfoldable pub next_pair : ℕ → IndexPair → IndexPair
next_pair n p =
    cond (ltb (p.second + 1) n)
    (record { first = p.first; second = p.second + 1; ordinal = p.ordinal + 1 })
    (record { first = p.first + 1; second = p.first + 2; ordinal = p.ordinal + 1 })

-- the place of c-d among the pairs of n, from 1: after the n − 1 − a pairs of each a before c, the pairs of c up to d (02, K8)
unfoldable pub ordinal : ℕ → ℕ → ℕ → ℕ
ordinal n c d = sum c (λ a. n - 1 - a) + (d - c)

-- what makes it the place in that order (02, K8)
pub record Ordinals (n : ℕ) : Type 0 where
  -- the first pair has 1, and each pair one more than the pair that it follows
  pub starts : ordinal n start_pair.first start_pair.second ≡ 1
  pub goes_up : (p : IndexPair) → p.first < p.second → p.second < n
      → ordinal n (next_pair n p).first (next_pair n p).second ≡ ordinal n p.first p.second + 1
  -- the last pair has n × (n − 1) ÷ 2
  pub ends : 2 ≤ n → ordinal n (n - 2) (n - 1) ≡ n * (n - 1) / 2
  -- no two pairs share one
  pub apart : (a b c d : ℕ) → a < b → b < n → c < d → d < n → ordinal n a b ≡ ordinal n c d → (a ≡ c) × (b ≡ d)
