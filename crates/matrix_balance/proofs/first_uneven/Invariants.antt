-- `first_uneven` meets its contract: the matrices before the one in hand are even or serve no column, and the counters are zero between two matrices.
-- Assumes nothing.
use mathlib.Core.Path.{◌≡◌}
use mathlib.Core.Option.{none}
use Prim.Native.Nat.{ℕ, ◌<◌}
use Rattle.tally.specs.Tally.{Cleared}
use Rattle.matrix_balance.proofs.Listed.{in_place}
use Rattle.matrix_balance.proofs.first_uneven.Given as goal

abbrev pub invariant-loop-d : goal.invariant-loop-d
invariant-loop-d l =
    Cleared l.counters × ((k : ℕ) → k < l.d-index → in_place l.list l.ds l.levels k ≡ none)
