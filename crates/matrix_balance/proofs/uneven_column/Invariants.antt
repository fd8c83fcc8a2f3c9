-- `uneven_column` meets its contract: the columns before the one in hand are even, and the counters are zero between two columns.
-- Assumes nothing.
use mathlib.Core.Path.{◌≡◌}
use mathlib.Core.Option.{none}
use Prim.Native.Nat.{ℕ, ◌<◌}
use lib.ListN.{length}
use Rattle.sum_bytes.specs.Summing.{placed_matrix}
use Rattle.tally.specs.Tally.{Cleared}
use Rattle.matrix_balance.proofs.Columns.{in_column}
use Rattle.matrix_balance.proofs.uneven_column.Given as goal

abbrev pub invariant-loop-column : goal.invariant-loop-column
invariant-loop-column l =
    (length l.counters ≡ length l.initial.counters)
    × Cleared l.counters
    × ((q k : ℕ) → k < l.column → in_column q (placed_matrix l.list l.m) k ≡ none)
