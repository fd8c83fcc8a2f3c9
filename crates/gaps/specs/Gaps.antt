-- How far off values are, as the code answers it (02, K5).
use Rattle.std.specs.Prelude.{ℕ}
use Rattle.counting.specs.Verdict.{gap, farthest}
use Rattle.gaps.specs.declared.Discrepancy.{Discrepancy}

-- value v of n, with in how many of N runs it stands and its gap
unfoldable pub discrepancy : ℕ → ℕ → (ℕ → ℕ) → ℕ → Discrepancy
discrepancy n N times_of v = record { value = v; times = times_of v; gap = gap n N (times_of v) }

-- the same of the value that is farthest off
unfoldable pub farthest_off : ℕ → ℕ → (ℕ → ℕ) → Discrepancy
farthest_off n N times_of = discrepancy n N times_of (farthest n N times_of)
