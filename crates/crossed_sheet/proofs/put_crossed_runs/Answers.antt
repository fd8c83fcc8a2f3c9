-- `crossed_sheet::put_crossed_runs` meets its contract. The invariant: the first runs are put, up to `place`.
use mathlib.Core.Path.{◌≡◌}
use native.Mathlib.Omega.{arith}
use Rattle.buffers.proofs.Puts.{put_join}
use Rattle.layout.proofs.Rows.{pieces_none, pieces_next}
use Rattle.crossed_sheet.specs.Crossing.{beside_run}
use Rattle.crossed_sheet.proofs.Beside.{run_part, run_part_length, run_room, some_row}
use Rattle.crossed_sheet.proofs.put_crossed_runs.Goals as goal

pub loop-run-init : goal.loop-run-init
loop-run-init c = pieces_none _ _

pub nonzero_div-old : goal.nonzero_div-old
nonzero_div-old c = some_row _ _ c.requires.legible.1 c.loop-run-test.true

pub put_bytes-place-requires : goal.put_bytes-place-requires
put_bytes-place-requires c =
    let pre = c.requires in
    let taken = c.loop-run-test.true in
    omega (
      arith,
      run_part_length _ _ _ _ pre.columns_in_bounds taken,
      run_room _ _ _ _ _ _ pre.columns_in_bounds taken c.loop-run.invariant pre.h_in_bounds,
    )

pub put_run-place-requires-clause-table_in_bounds : goal.put_run-place-requires-clause-table_in_bounds
put_run-place-requires-clause-table_in_bounds c =
    let pre = c.requires in
    let taken = c.loop-run-test.true in
    omega (
      arith,
      run_part_length _ _ _ _ pre.columns_in_bounds taken,
      run_room _ _ _ _ _ _ pre.columns_in_bounds taken c.loop-run.invariant pre.h_in_bounds,
      c.put_bytes-place.ensures.ends,
    )

pub loop-run-preserved : goal.loop-run-preserved
unfolding beside_run
loop-run-preserved c =
    pieces_next _ c.loop-run.invariant
    (put_join (rw (run_part c.args.table.now c.args.size.columns c.loop-run.run) at c.put_bytes-place.ensures) c.put_run-place.ensures)

pub returns : goal.returns
returns c = let all : c.loop-run.run ≡ c.args.size.runs = omega arith in rw all at c.loop-run.invariant
