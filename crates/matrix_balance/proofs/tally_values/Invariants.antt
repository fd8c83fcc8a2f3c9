-- `tally_values` meets its contract: after each row the counters hold the counts of the values so far.
-- Assumes nothing.
use mathlib.Core.Path.{◌≡◌}
use Prim.Native.Nat.{◌≤◌}
use lib.ListN.{length}
use Rattle.tally.specs.Tally.{Tallied}
use Rattle.matrix_balance.proofs.Values.{value_in}
use Rattle.matrix_balance.proofs.tally_values.Given as goal

abbrev pub invariant-loop-row : goal.invariant-loop-row
invariant-loop-row l =
    (l.row ≤ l.m.rows)
    × (length l.counters ≡ length l.initial.counters)
    × Tallied l.counters l.row (value_in l.list l.m l.column)
