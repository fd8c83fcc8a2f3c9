-- `find_stops` meets its contract. The invariant: the stops of the stretches that start at the column in hand or after it are found.
use native.Mathlib.Omega.{arith}
use Rattle.merged_rows.proofs.Stops.{stops_end, stops_all}
use Rattle.merged_rows.proofs.find_stops.Goals as goal

pub loop-column-init : goal.loop-column-init
loop-column-init c = stops_end _ _ c.args.stops.now (omega arith)

pub returns : goal.returns
returns c = stops_all _ _ (omega arith) c.loop-column.invariant
