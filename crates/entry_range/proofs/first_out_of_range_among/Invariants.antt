-- `entry_range::first_out_of_range_among` meets its contract. The invariant: the walk from the cursor on gives the answer of the whole. An ingredient that was
-- read stands in the list, so what the search finds in the list is what the definition finds in the ingredient.
use Rattle.std.proofs.Common.{◌≡◌, ◌-◌}
use Rattle.entry_range.specs.Search.{scanned}
use Rattle.entry_range.proofs.first_out_of_range_among.Given as goal

abbrev pub invariant-loop : goal.invariant-loop
invariant-loop l = scanned (l.n - l.counter) l.list l.c.at ≡ scanned l.n l.list l.initial.c.at
