-- What the counting of the levels of a table takes of its keys.
-- Assumes nothing.
use mathlib.Core.Path.{◌≡◌, ap}
use mathlib.Core.List.{List}
use Prim.Native.Nat.{ℕ, ◌+◌, ◌*◌, ◌<◌}
use native.Mathlib.Nat.{le_refl, lt_of_lt_of_le}
use lib.ListN.{get_or}
use Rattle.tally.specs.Tally.{Tallied}
use Rattle.gaps.specs.Gaps.{farthest_off}
use Rattle.level_counts.specs.Keys.{Keyed, levels_key, farthest_key}

-- keys below n have their counters
pub enough : {cells : List ℕ} {runs columns first second n : ℕ} {key : ℕ → ℕ} → Keyed cells runs columns first second n key
    → Keyed cells runs columns first second 4096 key
enough k =
    record {
      whole = k.whole;
      few = k.few;
      first_in = k.first_in;
      second_in = k.second_in;
      counters_enough = le_refl 4096;
      keys_below = λ r l. lt_of_lt_of_le (k.keys_below r l) k.counters_enough;
    }

-- what the counters show as farthest off is that of the keys
pub farthest_tallied : {counters : List ℕ} {runs : ℕ} {key : ℕ → ℕ} (n : ℕ) → Tallied counters runs key
    → farthest_off n runs (λ v. get_or counters v 0) ≡ farthest_key n runs key
unfolding farthest_key
farthest_tallied {runs = runs} n t = ap (farthest_off n runs) (λ i v. t.counts v i)

-- the key of a run as the code makes it
pub key_below : {cells : List ℕ} {runs columns first second r : ℕ} (weight : ℕ)
    → Keyed cells runs columns first second 4096 (levels_key cells columns first weight second) → r < runs
    → get_or cells (r * columns + first) 0 * weight + get_or cells (r * columns + second) 0 < 4096
unfolding levels_key
key_below {r = r} weight keyed within = keyed.keys_below r within
