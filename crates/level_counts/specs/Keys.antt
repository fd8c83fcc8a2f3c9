-- The keys by which the check of a table counts its runs.
use Rattle.std.specs.Prelude.{List, ℕ, ◌+◌, ◌*◌, ◌≤◌, ◌<◌, eqb, length, get_or}
use Rattle.finite.specs.Sum.{count}
use Rattle.gaps.specs.Gaps.{farthest_off}
use Rattle.gaps.specs.declared.Discrepancy.{Discrepancy}

-- cells in runs of so many columns, two of the columns, and a key for each run, below n, of which the counters hold all
pub record Keyed (cells : List ℕ) (runs columns first second n : ℕ) (key : ℕ → ℕ) : Type 0 where
  pub whole : runs * columns ≤ length cells
  pub few : runs ≤ 512
  pub first_in : first < columns
  pub second_in : second < columns
  pub counters_enough : n ≤ 4096
  pub keys_below : (r : ℕ) → r < runs → key r < n

-- a run's key: the level in one column times a weight, plus the level in another
unfoldable pub levels_key : List ℕ → ℕ → ℕ → ℕ → ℕ → ℕ → ℕ
levels_key cells columns first weight second r =
    get_or cells (r * columns + first) 0 * weight + get_or cells (r * columns + second) 0

-- the one of n keys that is farthest off being that of the n-th part of the runs (02, K5)
unfoldable pub farthest_key : ℕ → ℕ → (ℕ → ℕ) → Discrepancy
farthest_key n runs key = farthest_off n runs (λ v. count runs (λ r. eqb (key r) v))
