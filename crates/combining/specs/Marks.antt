-- Marks for the codes of combinations that the quick test of a generator has met.
use Rattle.std.specs.Prelude.{◌≡◌, Bool, true, false, List, ℕ, ◌<◌, get_or}

unfoldable pub Marked : List Bool → ℕ → Type 0
Marked seen k = get_or seen k false ≡ true

-- the codes of the numbers 1 to n - 1 had no mark before and have one after, and no mark is lost
pub record NewCodes (before after : List Bool) (n : ℕ) (code : ℕ → ℕ) : Type 0 where
  pub kept : (k : ℕ) → Marked before k → Marked after k
  pub new : (v : ℕ) → 0 < v → v < n → Marked before (code v) → ⊥
  pub marked : (v : ℕ) → 0 < v → v < n → Marked after (code v)
