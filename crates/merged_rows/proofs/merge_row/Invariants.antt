-- `merge_row` meets its contract. The invariant: what stands in the places of the columns so far is put, and a stretch starts at the next one.
use Prim.Native.Nat.{◌-◌}
use lib.ListN.{length}
use Rattle.merged_rows.specs.MergedRow.{Stretch}
use Rattle.merged_rows.proofs.Rows.{RowPut}
use Rattle.merged_rows.proofs.merge_row.Given as goal

abbrev pub invariant-loop-stop : goal.invariant-loop-stop
invariant-loop-stop l =
    Stretch l.roles (length l.row) l.column l.stop × RowPut l.row l.roles l.merged l.initial.buf l.at l.column l.buf l.place

abbrev pub decreases-loop-stop : goal.decreases-loop-stop
decreases-loop-stop l = length l.row - l.column
