-- `uneven_pair` meets its contract: the pairs before the one in hand are even, and the counters are zero between two pairs.
-- Assumes nothing.
use mathlib.Core.Path.{◌≡◌}
use lib.ListN.{length}
use Rattle.finite.proofs.PairOrder.{Searched, left}
use Rattle.counting.specs.Table.{table_of}
use Rattle.counting.specs.Verdict.{pair_fault}
use Rattle.tally.specs.Tally.{Cleared}
use Rattle.table_check.proofs.uneven_pair.Given as goal

abbrev pub invariant-loop-pair : goal.invariant-loop-pair
invariant-loop-pair l =
    (length l.counters ≡ length l.initial.counters)
    × Cleared l.counters
    × Searched (pair_fault (table_of l.cells l.levels l.runs)) (length l.levels) l.pair

abbrev pub decreases-loop-pair : goal.decreases-loop-pair
decreases-loop-pair l = left (length l.levels) l.pair
