-- The sums in fields that a step looks up.
use Rattle.std.specs.Prelude.{◌≡◌, List, ℕ, ◌+◌, ◌*◌, ◌/◌, ◌%◌, ◌<◌, T, length, get_or}
use Rattle.galois.specs.Levels.{over_field, level_sum}

-- the first n of the sums in the field of s elements, that of a and b at s × 81 + a × s + b
abbrev pub FieldSums : ℕ → ℕ → List ℕ → Type 0
FieldSums s n sums = (q : ℕ) → q < n → get_or sums (s * 81 + q) 0 ≡ level_sum s (q / s) (q % s)

-- those of all fields of fewer than n elements that a matrix serves
pub record FieldTables (widths : List ℕ) (n : ℕ) (sums : List ℕ) : Type 0 where
  pub places : length sums ≡ 810
  pub served : (s : ℕ) → s < n → T (over_field s) → 0 < get_or widths s 0 → FieldSums s (s * s) sums

-- what stands before a place is the same
unfoldable pub SameBefore : ℕ → List ℕ → List ℕ → Type 0
SameBefore n before after = (k : ℕ) → k < n → get_or after k 0 ≡ get_or before k 0

-- where the sums that go with p are looked up, and some are asked for, they are there
pub record Summable (p asked : ℕ) (sums : List ℕ) : Type 0 where
  pub places : length sums ≡ 810
  pub there : T (over_field p) → 0 < asked → FieldSums p (p * p) sums
