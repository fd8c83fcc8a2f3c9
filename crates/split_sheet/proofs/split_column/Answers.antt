-- `split_sheet::split_column` meets its contract: the next sheet is built in the scratch, its level counts beside it, and both are settled.
use native.Mathlib.Nat.{le_trans}
use borrow.Author.Rules.{rules}
use lib.Seq.{length-take-le}
use Rattle.ingredients.specs.Named.{table_in}
use Rattle.layout.proofs.Sheets.{ready_few, ready_used, ready_after, ready_levels_after}
use Rattle.split_sheet.proofs.Sheet.{on_sheet, row_there, columns_room, cells_room, built_room, built_within, count_room, scratch_after, settled, take_few}
use Rattle.split_sheet.proofs.split_column.Goals as goal

pub overflow_mul-runs : goal.overflow_mul-runs
overflow_mul-runs c = let room = ready_used c.requires.ready in search rules

pub put_split_runs-built-requires-clause-c_lt_columns : goal.put_split_runs-built-requires-clause-c_lt_columns
put_split_runs-built-requires-clause-c_lt_columns c =
    let ready = c.requires.ready in
    let T = table_in c.args.list.now c.args.named in
    let fits = c.requires.split_fits in (on_sheet ready _ T fits, ready_used ready)

pub put_split_runs-built-requires-clause-by_index : goal.put_split_runs-built-requires-clause-by_index
put_split_runs-built-requires-clause-by_index c =
    let ready = c.requires.ready in
    let T = table_in c.args.list.now c.args.named in
    let fits = c.requires.split_fits in row_there ready _ T fits

pub put_split_runs-built-requires-clause-named_in_bounds : goal.put_split_runs-built-requires-clause-named_in_bounds
put_split_runs-built-requires-clause-named_in_bounds c =
    let ready = c.requires.ready in
    let T = table_in c.args.list.now c.args.named in
    let fits = c.requires.split_fits in le_trans (cells_room ready _ T fits c.requires.small_enough) ready.long.scratch_long

pub settle-requires-clause-used_in_bounds : goal.settle-requires-clause-used_in_bounds
settle-requires-clause-used_in_bounds c =
    let ready = c.requires.ready in
    let T = table_in c.args.list.now c.args.named in
    let fits = c.requires.split_fits in
    let small = c.requires.small_enough in
    let runs_put = c.put_split_runs-built.ensures in
    let levels_put = c.put_split_levels-count.ensures in (ready_used ready, ready_after ready)

pub settle-requires-clause-columns_in_bounds : goal.settle-requires-clause-columns_in_bounds
settle-requires-clause-columns_in_bounds c =
    let ready = c.requires.ready in
    let T = table_in c.args.list.now c.args.named in
    let fits = c.requires.split_fits in
    let small = c.requires.small_enough in
    let runs_put = c.put_split_runs-built.ensures in
    let levels_put = c.put_split_levels-count.ensures in (ready_few ready, ready_levels_after ready)

pub settle-requires-clause-built_in_bounds : goal.settle-requires-clause-built_in_bounds
settle-requires-clause-built_in_bounds c =
    let ready = c.requires.ready in
    let T = table_in c.args.list.now c.args.named in
    let fits = c.requires.split_fits in
    let small = c.requires.small_enough in
    let runs_put = c.put_split_runs-built.ensures in
    let levels_put = c.put_split_levels-count.ensures in (built_within ready _ T fits small runs_put levels_put, scratch_after ready _ T fits small runs_put levels_put)

pub settle-requires-clause-built_in_bounds_2 : goal.settle-requires-clause-built_in_bounds_2
settle-requires-clause-built_in_bounds_2 c =
    let ready = c.requires.ready in
    let T = table_in c.args.list.now c.args.named in
    let fits = c.requires.split_fits in
    let small = c.requires.small_enough in
    let runs_put = c.put_split_runs-built.ensures in
    let levels_put = c.put_split_levels-count.ensures in (
      le_trans (built_room ready _ T fits small runs_put levels_put) ready.long.table_long,
      le_trans (take_few _ _) (le_trans (count_room ready _ T fits small runs_put levels_put) ready.long.levels_long),
    )

pub returns-clause-holds : goal.returns-clause-holds
returns-clause-holds c =
    let T = table_in c.args.list.now c.args.named in
    let left = c.settle.ensures in settled c.requires.ready _ T c.requires.split_fits c.requires.small_enough c.put_split_runs-built.ensures c.put_split_levels-count.ensures left.table_after left.levels_after

pub put_split_levels-count-requires-clause-c_in_bounds : goal.put_split_levels-count-requires-clause-c_in_bounds
put_split_levels-count-requires-clause-c_in_bounds c =
    let ready = c.requires.ready in
    rw (length-take-le _ _ (ready_few ready)) (on_sheet ready _ (table_in c.args.list.now c.args.named) c.requires.split_fits)

pub put_split_levels-count-requires-clause-named_in_bounds : goal.put_split_levels-count-requires-clause-named_in_bounds
put_split_levels-count-requires-clause-named_in_bounds c =
    let ready = c.requires.ready in
    let T = table_in c.args.list.now c.args.named in
    rw (length-take-le _ _ (ready_few ready)) (columns_room ready _ T c.requires.split_fits c.requires.small_enough)
