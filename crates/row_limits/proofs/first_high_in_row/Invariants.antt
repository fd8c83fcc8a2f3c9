-- `row_limits::first_high_in_row` meets its contract. The invariant: the search from column on gives the answer of the whole row.
use mathlib.Core.Path.{◌≡◌}
use Prim.Native.Nat.{◌-◌}
use lib.ListN.{length}
use Rattle.order.specs.Range.{first_failing}
use Rattle.row_limits.specs.High.{is_below, high_in_row}
use Rattle.row_limits.proofs.first_high_in_row.Given as goal

abbrev pub invariant-loop-column : goal.invariant-loop-column
invariant-loop-column l =
    first_failing (is_below l.list l.start l.limits) l.start (length l.limits - l.column) l.column ≡ high_in_row l.list l.start l.limits
