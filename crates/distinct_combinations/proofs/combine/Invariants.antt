-- `combine` meets its contract: what is combined so far is the combination from the place in hand on.
-- Assumes nothing.
use mathlib.Core.Path.{◌≡◌}
use Prim.Native.Nat.{◌≤◌, ◌<◌}
use Rattle.combining.specs.Combining.{combined}
use Rattle.distinct_combinations.proofs.combine.Given as goal

abbrev pub invariant-loop-at : goal.invariant-loop-at
invariant-loop-at l =
    (l.start ≤ l.at)
    × (l.at ≤ l.end)
    × (l.sum < l.s)
    × (record { rest = l.rest; sum = l.sum } ≡ combined l.s l.entries l.at l.end (record { rest = l.initial.rest; sum = l.initial.sum }))
