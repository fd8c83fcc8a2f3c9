-- `row_limits::row_in_range` meets its contract. The invariant: the numbers so far pass and those from column on pass exactly where all of them do.
use mathlib.Core.Path.{◌≡◌}
use mathlib.Core.Bool.{◌&&◌}
use Prim.Native.Nat.{◌-◌}
use lib.ListN.{length}
use Rattle.order.specs.Range.{first_failing, is_in_range}
use Rattle.row_limits.specs.High.{is_below, high_in_row}
use Rattle.row_limits.proofs.row_in_range.Given as goal

abbrev pub invariant-loop-column : goal.invariant-loop-column
invariant-loop-column l =
    (l.all && is_in_range (first_failing (is_below l.list l.start l.limits) l.start (length l.limits - l.column) l.column)) ≡ is_in_range (high_in_row l.list l.start l.limits)
