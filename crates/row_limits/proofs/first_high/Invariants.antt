-- `row_limits::first_high` meets its contract. The invariant: the rows that are left stand within the list, and the search in them gives the
-- answer of the whole.
use Rattle.std.proofs.Common.{◌≡◌, ◌+◌, ◌-◌, ◌*◌, ◌≤◌, length}
use Rattle.row_limits.specs.High.{high_in_rows}
use Rattle.row_limits.proofs.first_high.Given as goal

abbrev pub invariant-loop : goal.invariant-loop
invariant-loop l =
    (l.at + (l.rows - l.counter) * length l.limits ≤ length l.list)
    × (high_in_rows l.list l.at (l.rows - l.counter) l.limits ≡ high_in_rows l.list l.start l.rows l.limits)
