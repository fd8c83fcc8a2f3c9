-- `summed_sheet::build` meets its contract: the runs are put into the scratch, the level counts into an array, and `settle` moves both.
use native.Mathlib.Nat.{le_trans}
use native.Mathlib.Omega.{arith}
use Rattle.buffers.proofs.Puts.{put_front}
use Rattle.sum_bytes.specs.Summing.{built_sheet}
use Rattle.layout.proofs.Sheets.{ready_few, ready_used, ready_after, ready_levels_after, built_holds}
use Rattle.sum_bytes.proofs.SumSheet.{built_room, sheet_stands, put_sheet, scratch_holds, table_room}
use Rattle.summed_sheet.proofs.build.Goals as goal

pub overflow_mul-used : goal.overflow_mul-used
overflow_mul-used c = omega (arith, ready_used c.requires.ready)

pub put_runs-built-requires-clause-sheet_stands : goal.put_runs-built-requires-clause-sheet_stands
unfolding built_sheet
put_runs-built-requires-clause-sheet_stands c =
    let stand = c.requires.entries_stand in
    let small = c.requires.small_enough in sheet_stands c.requires.ready

pub put_runs-built-requires-clause-rows_bound : goal.put_runs-built-requires-clause-rows_bound
unfolding built_sheet
put_runs-built-requires-clause-rows_bound c =
    let stand = c.requires.entries_stand in
    let small = c.requires.small_enough in (small.runs_most, built_room stand _ _ _ _ small _ c.requires.ready.long.scratch_long)

pub put_levels-columns-requires-clause-all_below : goal.put_levels-columns-requires-clause-all_below
unfolding built_sheet
put_levels-columns-requires-clause-all_below c = rw c.requires.entries_stand.widths_full (sheet_stands c.requires.ready).few

pub put_levels-columns-requires-clause-k_in_bounds : goal.put_levels-columns-requires-clause-k_in_bounds
unfolding built_sheet
put_levels-columns-requires-clause-k_in_bounds c = c.requires.small_enough.columns_most

pub settle-requires-clause-used_in_bounds : goal.settle-requires-clause-used_in_bounds
unfolding built_sheet
settle-requires-clause-used_in_bounds c =
    let ready = c.requires.ready in
    let stand = c.requires.entries_stand in
    let small = c.requires.small_enough in
    let runs_put = c.put_runs-built.ensures in (ready_used ready, ready_after ready)

pub settle-requires-clause-columns_in_bounds : goal.settle-requires-clause-columns_in_bounds
unfolding built_sheet
settle-requires-clause-columns_in_bounds c =
    let ready = c.requires.ready in
    let stand = c.requires.entries_stand in
    let small = c.requires.small_enough in
    let runs_put = c.put_runs-built.ensures in (ready_few ready, ready_levels_after ready)

pub settle-requires-clause-built_in_bounds : goal.settle-requires-clause-built_in_bounds
unfolding built_sheet
settle-requires-clause-built_in_bounds c =
    let ready = c.requires.ready in
    let stand = c.requires.entries_stand in
    let small = c.requires.small_enough in
    let runs_put = c.put_runs-built.ensures in scratch_holds _ ready stand small runs_put

pub settle-requires-clause-built_in_bounds_2 : goal.settle-requires-clause-built_in_bounds_2
unfolding built_sheet
settle-requires-clause-built_in_bounds_2 c =
    let ready = c.requires.ready in
    let stand = c.requires.entries_stand in
    let small = c.requires.small_enough in
    let runs_put = c.put_runs-built.ensures in (
      table_room _ ready stand small runs_put,
      rw (put_front c.put_levels-columns.ensures) (le_trans small.columns_most ready.long.levels_long),
    )

pub returns-clause-holds : goal.returns-clause-holds
unfolding built_sheet
returns-clause-holds c =
    let ready = c.requires.ready in
    let settled = c.settle in built_holds _ ready.scratch_clear (put_sheet _ ready c.requires.entries_stand c.requires.small_enough c.put_runs-built.ensures) _ _
    settled.auto.table settled.auto.levels settled.ensures.table_after settled.ensures.levels_after
    (put_front c.put_levels-columns.ensures)
