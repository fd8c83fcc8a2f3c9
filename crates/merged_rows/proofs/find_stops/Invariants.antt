-- `find_stops` meets its contract. The invariant: the stops of the stretches that start at the column in hand or after it are found.
use Rattle.merged_rows.proofs.Stops.{StopsFrom}
use Rattle.merged_rows.proofs.find_stops.Given as goal

abbrev pub invariant-loop-column : goal.invariant-loop-column
invariant-loop-column l = StopsFrom l.roles l.columns l.stops l.column
