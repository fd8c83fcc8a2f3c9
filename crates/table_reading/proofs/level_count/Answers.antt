-- `table_reading::level_count` meets its contract: the level counts of a table of the list stand one after the other within it, in bytes.
-- Assumes nothing.
use Prim.Native.Nat.{◌+◌, ◌<◌}
use lib.ListN.{length}
use Rattle.ingredients.specs.Named.{table_in, Legible}
use Rattle.ingredients.proofs.OwnTables.{level_place, level_byte, level_read}
use borrow.Author.Rules.{rules}
use Rattle.table_reading.proofs.level_count.Goals as goal

pub level_count-requires-clause-house_number : goal.level_count-requires-clause-house_number
unfolding Legible table_in
level_count-requires-clause-house_number c = let pre = rw c.in-House.is at c.requires in pre.legible

pub level_count-requires-clause-column_bound : goal.level_count-requires-clause-column_bound
unfolding Legible table_in
level_count-requires-clause-column_bound c = let pre = rw c.in-House.is at c.requires in pre.column_bound

pub returns-in-House : goal.returns-in-House
unfolding table_in
returns-in-House c = rw c.in-House.is c.level_count.ensures

pub returns-in-Missing : goal.returns-in-Missing
unfolding table_in
returns-in-Missing c = rw c.in-Missing.is

pub overflow_add-result : goal.overflow_add-result
overflow_add-result c =
    let place : c.in-Own.levels_at + c.args.column < length c.args.list.now =
    let pre = rw c.in-Own.is at c.requires in
    level_place _ _ _ _ _ pre.legible _ pre.column_bound
    in
    let inside = place in search rules

pub offset_bounds-list-levels_at : goal.offset_bounds-list-levels_at
offset_bounds-list-levels_at c =
    let place : c.in-Own.levels_at + c.args.column < length c.args.list.now =
    let pre = rw c.in-Own.is at c.requires in
    level_place _ _ _ _ _ pre.legible _ pre.column_bound
    in
    let inside = place in search rules

pub bounds-list-levels_at : goal.bounds-list-levels_at
bounds-list-levels_at c =
    let place : c.in-Own.levels_at + c.args.column < length c.args.list.now =
    let pre = rw c.in-Own.is at c.requires in
    level_place _ _ _ _ _ pre.legible _ pre.column_bound
    in
    place

pub overflow_cast-result : goal.overflow_cast-result
overflow_cast-result c =
    let pre = rw c.in-Own.is at c.requires in
    record { fits = level_byte _ _ _ _ _ pre.legible _ pre.column_bound }

pub returns-in-Own : goal.returns-in-Own
returns-in-Own c =
    let pre = rw c.in-Own.is at c.requires in
    rw c.in-Own.is (level_read _ _ _ _ _ pre.legible _ pre.column_bound)
