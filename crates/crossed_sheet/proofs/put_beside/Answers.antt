-- `crossed_sheet::put_beside` meets its contract: the next sheet is built in the scratch, its level counts beside it, and both are settled.
use mathlib.Core.List.{List}
use Prim.Native.Nat.{ℕ, ◌≤◌}
use borrow.Author.Rules.{rules}
use lib.Seq.{length-take-le}
use Rattle.counting.specs.Table.{Table}
use Rattle.step_tables.specs.Sheet.{SmallEnough}
use Rattle.layout.specs.Bytes.{Holds, Zeros, LongEnough, sheet_in}
use Rattle.layout.specs.declared.Size.{Size}
use Rattle.layout.proofs.Sheets.{held_after, held_levels_after}
use Rattle.crossed_sheet.specs.Crossing.{crossed_sheet}
use Rattle.crossed_sheet.proofs.Beside.{Handed, levels_few, cells_used, columns_room, cells_room, scratch_holds, next_room, settled}
use Rattle.crossed_sheet.proofs.put_beside.Goals as goal

handed : {M : ℕ} {H : Table} {size : Size} {table levels scratch : List ℕ}
    → LongEnough table levels scratch × Zeros scratch
    → Holds (sheet_in table levels size) table levels × (size.columns ≤ 128)
    → SmallEnough (crossed_sheet M H (sheet_in table levels size))
    → Handed M H size table levels scratch
handed room sheet small =
    record { long = room.0; clear = room.1; holds = sheet.0; columns_most = sheet.1; small = small }

pub put_crossed_levels-count-requires-clause-h_in_bounds : goal.put_crossed_levels-count-requires-clause-h_in_bounds
put_crossed_levels-count-requires-clause-h_in_bounds c =
    let given = handed c.requires.long_enough c.requires.holds c.requires.small_enough in
    rw (length-take-le _ _ (levels_few given)) (columns_room given)

pub put_crossed_runs-built-requires-clause-columns_in_bounds : goal.put_crossed_runs-built-requires-clause-columns_in_bounds
put_crossed_runs-built-requires-clause-columns_in_bounds c =
    cells_used (handed c.requires.long_enough c.requires.holds c.requires.small_enough)

pub put_crossed_runs-built-requires-clause-h_in_bounds : goal.put_crossed_runs-built-requires-clause-h_in_bounds
put_crossed_runs-built-requires-clause-h_in_bounds c =
    cells_room (handed c.requires.long_enough c.requires.holds c.requires.small_enough)

pub overflow_mul-runs : goal.overflow_mul-runs
overflow_mul-runs c =
    let room = cells_used (handed c.requires.long_enough c.requires.holds c.requires.small_enough) in search rules

pub settle-requires : goal.settle-requires
settle-requires c =
    let given = handed c.requires.long_enough c.requires.holds c.requires.small_enough in
    let runs_put = c.put_crossed_runs-built.ensures in
    let levels_put = c.put_crossed_levels-count.ensures in
    record {
      used_in_bounds = (cells_used given, held_after _ _ _ (levels_few given) given.holds);
      columns_in_bounds = (levels_few given, held_levels_after _ _ _ (levels_few given) given.holds);
      built_in_bounds = scratch_holds given runs_put levels_put;
      built_in_bounds_2 = next_room given runs_put levels_put;
    }

pub returns-clause-holds_2 : goal.returns-clause-holds_2
returns-clause-holds_2 c =
    let given = handed c.requires.long_enough c.requires.holds c.requires.small_enough in
    let left = c.settle in
    settled given c.put_crossed_runs-built.ensures c.put_crossed_levels-count.ensures left.auto.table left.auto.levels left.ensures.table_after
    left.ensures.levels_after
