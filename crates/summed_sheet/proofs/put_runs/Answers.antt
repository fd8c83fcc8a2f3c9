-- `summed_sheet::put_runs` meets its contract. The invariant: the first `r` runs are put, up to `place`.
use Prim.Native.Nat.{◌+◌, ◌*◌, ◌/◌, ◌%◌, ◌≤◌}
use native.Mathlib.Omega.{arith}
use lib.ListN.{length, take, drop}
use Rattle.buffers.proofs.Puts.{put_join, put_length}
use Rattle.counting.specs.Table.{columns}
use Rattle.ingredients.specs.Named.{table_in}
use Rattle.sum_bytes.specs.Summing.{summed_run, built_run, Adjoins}
use Rattle.sum_bytes.proofs.Pieces.{pieces_none, below_room, below_next, below_all}
use Rattle.sum_bytes.proofs.Sums.{run_below, row_below, row_stands, run_stands, run_within, part_same, built_length}
use Rattle.summed_sheet.proofs.put_runs.Goals as goal

pub loop-r-init : goal.loop-r-init
loop-r-init c = pieces_none _ _ _ _ (omega arith)

pub slice_bounds-put_summed_run-end : goal.slice_bounds-put_summed_run-end
slice_bounds-put_summed_run-end c = run_within c.requires.sheet_stands _ (run_below _ _ _ c.loop-r-test.true)

pub put_summed_run-place-requires-clause-row_stands : goal.put_summed_run-place-requires-clause-row_stands
put_summed_run-place-requires-clause-row_stands c =
    row_stands c.requires.entries_stand _ (row_below _ _ _ c.loop-r-test.true)

pub put_summed_run-place-requires-clause-run_stands : goal.put_summed_run-place-requires-clause-run_stands
put_summed_run-place-requires-clause-run_stands c =
    rw part_same (run_stands c.requires.sheet_stands _ (run_below _ _ _ c.loop-r-test.true))

pub put_summed_run-place-requires-clause-cells_in_bounds : goal.put_summed_run-place-requires-clause-cells_in_bounds
put_summed_run-place-requires-clause-cells_in_bounds c =
    let room : c.loop-r.place
    + (length (summed_run c.args.list.now c.args.entries.now c.args.widths.now (c.loop-r.r % c.args.rows) c.args.levels.now (take (length c.args.levels.now) (drop (c.loop-r.r / c.args.rows * length c.args.levels.now) c.args.table.now)))
    + columns (table_in c.args.list.now c.args.k))
    ≤ length c.loop-r.buf =
    rw built_length at (below_room c.loop-r.invariant c.loop-r-test.true (omega (arith, c.requires.rows_bound.1)))
    in
    rw part_same (omega (arith, room))

pub put_run-place-requires-clause-run_bound : goal.put_run-place-requires-clause-run_bound
unfolding Adjoins
put_run-place-requires-clause-run_bound c =
    λ some. rw (c.requires.legible.1 some) (row_below _ _ _ c.loop-r-test.true)

pub put_run-place-requires-clause-table_in_bounds : goal.put_run-place-requires-clause-table_in_bounds
put_run-place-requires-clause-table_in_bounds c =
    let room : c.loop-r.place
    + (length (summed_run c.args.list.now c.args.entries.now c.args.widths.now (c.loop-r.r % c.args.rows) c.args.levels.now (take (length c.args.levels.now) (drop (c.loop-r.r / c.args.rows * length c.args.levels.now) c.args.table.now)))
    + columns (table_in c.args.list.now c.args.k))
    ≤ length c.loop-r.buf =
    rw built_length at (below_room c.loop-r.invariant c.loop-r-test.true (omega (arith, c.requires.rows_bound.1)))
    in
    let put = rw part_same at c.put_summed_run-place.ensures in omega (arith, room, put.ends, put_length put)

pub loop-r-preserved : goal.loop-r-preserved
unfolding built_run
loop-r-preserved c =
    below_next c.loop-r.invariant c.loop-r-test.true
    (put_join (rw part_same at c.put_summed_run-place.ensures) c.put_run-place.ensures)

pub returns : goal.returns
returns c = below_all c.loop-r.invariant c.loop-r-test.false
