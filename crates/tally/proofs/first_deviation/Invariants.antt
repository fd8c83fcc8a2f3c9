-- `first_deviation` meets its contract: the counters that were read were even and are zero now, the others are as they were.
-- Assumes nothing.
use mathlib.Core.Path.{◌≡◌}
use Prim.Native.Nat.{ℕ, ◌*◌, ◌≤◌, ◌<◌}
use lib.ListN.{length, get_or}
use Rattle.tally.proofs.first_deviation.Given as goal

abbrev pub invariant-loop-value : goal.invariant-loop-value
invariant-loop-value l =
    (length l.counters ≡ length l.initial.counters)
    × ((v : ℕ) → v < l.value → get_or l.counters v 0 ≡ 0)
    × ((v : ℕ) → l.value ≤ v → get_or l.counters v 0 ≡ get_or l.initial.counters v 0)
    × ((v : ℕ) → v < l.value → l.n * get_or l.initial.counters v 0 ≡ l.runs)
