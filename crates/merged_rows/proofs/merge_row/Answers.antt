-- `merge_row` meets its contract. The invariant: what stands in the places of the columns so far is put, and a stretch starts at the next one.
use Prim.Native.Nat.{◌+◌}
use native.Mathlib.Nat.{le_antisymm}
use native.Mathlib.Omega.{arith}
use Rattle.merged_rows.specs.MergedRow.{merged_row}
use Rattle.merged_rows.proofs.Rows.{row_none, row_stretch, row_member, stretch_room, member_room}
use Rattle.merged_rows.proofs.merge_row.Goals as goal

pub loop-stop-init : goal.loop-stop-init
loop-stop-init c = (c.requires.has_stops.given 0 (omega arith), row_none _ _ _ _ _ (omega arith))

pub put_bytes-place-requires : goal.put_bytes-place-requires
put_bytes-place-requires c =
    let l = c.loop-stop in
    stretch_room _ _ _ _ _ l.column l.invariant.1 l.invariant.0 c.requires.row_in_bounds_2

pub put_member-place-requires : goal.put_member-place-requires
put_member-place-requires c =
    let l = c.loop-stop in
    member_room _ _ _ _ _ l.stop (row_stretch _ _ _ _ _ l.column l.invariant.1 l.invariant.0 c.put_bytes-place.ensures) c.loop-stop-test.true c.requires.row_in_bounds_2

pub loop-stop-preserved : goal.loop-stop-preserved
loop-stop-preserved c =
    let l = c.loop-stop in
    let taken = c.loop-stop-test.true in (
      c.requires.has_stops.given (l.stop + 1) (omega arith),
      row_member _ _ _ _ _ l.stop (row_stretch _ _ _ _ _ l.column l.invariant.1 l.invariant.0 c.put_bytes-place.ensures) (l.invariant.0.at_member taken) c.put_member-place.ensures,
    )

pub put_bytes-requires : goal.put_bytes-requires
put_bytes-requires c =
    let l = c.loop-stop in
    stretch_room _ _ _ _ _ l.column l.invariant.1 l.invariant.0 c.requires.row_in_bounds_2

pub returns : goal.returns
unfolding merged_row
returns c =
    let l = c.loop-stop in
    rw (le_antisymm c.loop-stop-test.false l.invariant.0.within) (row_stretch _ _ _ _ _ l.column l.invariant.1 l.invariant.0 c.put_bytes.ensures).put
