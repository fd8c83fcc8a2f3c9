-- `uneven_column` meets its contract: the columns before the one in hand are even, and the counters are zero between two columns.
-- Assumes nothing.
use mathlib.Core.Path.{◌≡◌}
use mathlib.Core.Option.{none}
use Prim.Native.Nat.{ℕ, ◌<◌}
use lib.ListN.{length}
use Rattle.counting.specs.Table.{table_of}
use Rattle.counting.specs.Verdict.{column_fault}
use Rattle.tally.specs.Tally.{Cleared}
use Rattle.table_check.proofs.uneven_column.Given as goal

abbrev pub invariant-loop-column : goal.invariant-loop-column
invariant-loop-column l =
    (length l.counters ≡ length l.initial.counters)
    × Cleared l.counters
    × ((k : ℕ) → k < l.column → column_fault (table_of l.cells l.levels l.runs) k ≡ none)
