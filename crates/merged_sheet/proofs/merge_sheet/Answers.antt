-- `merge_sheet` meets its contract: the runs and the level counts that are put are those of the sheet that the definition leaves.
use borrow.Author.Rules.{rules}
use Rattle.layout.proofs.Sheets.{ready_few, ready_used, ready_after, ready_levels_after}
use Rattle.merged_sheet.proofs.Settled.{runs_room, scratch_asked, room_asked, settled}
use Rattle.merged_sheet.proofs.merge_sheet.Goals as goal

pub merge_runs-built-requires-clause-levels_in_bounds_2 : goal.merge_runs-built-requires-clause-levels_in_bounds_2
merge_runs-built-requires-clause-levels_in_bounds_2 c =
    let m = c.requires in runs_room m

pub settle-requires-clause-used_in_bounds : goal.settle-requires-clause-used_in_bounds
settle-requires-clause-used_in_bounds c =
    let m = c.requires in
    let runs_put = c.merge_runs-built.ensures in
    let counts_put = c.merge_row-left.ensures in (ready_used m.ready, ready_after m.ready)

pub settle-requires-clause-columns_in_bounds : goal.settle-requires-clause-columns_in_bounds
settle-requires-clause-columns_in_bounds c =
    let m = c.requires in
    let runs_put = c.merge_runs-built.ensures in
    let counts_put = c.merge_row-left.ensures in (ready_few m.ready, ready_levels_after m.ready)

pub settle-requires-clause-built_in_bounds : goal.settle-requires-clause-built_in_bounds
settle-requires-clause-built_in_bounds c =
    let m = c.requires in
    let runs_put = c.merge_runs-built.ensures in
    let counts_put = c.merge_row-left.ensures in scratch_asked m runs_put counts_put

pub settle-requires-clause-built_in_bounds_2 : goal.settle-requires-clause-built_in_bounds_2
settle-requires-clause-built_in_bounds_2 c =
    let m = c.requires in
    let runs_put = c.merge_runs-built.ensures in
    let counts_put = c.merge_row-left.ensures in room_asked m runs_put counts_put

pub returns-clause-left : goal.returns-clause-left
returns-clause-left c =
    let m = c.requires in
    let called = c.settle in
    settled m c.merge_runs-built.ensures c.merge_row-left.ensures called.auto.table called.auto.levels called.ensures.table_after called.ensures.levels_after (search rules)
