-- `table_reading::level` meets its contract: the levels of a table of the list stand run by run within it, in bytes.
-- Assumes nothing.
use Prim.Native.Nat.{◌+◌, ◌*◌, ◌<◌}
use lib.ListN.{length}
use Rattle.ingredients.specs.Named.{table_in, Legible}
use Rattle.ingredients.proofs.OwnTables.{cell_place, cell_byte, cell_read}
use borrow.Author.Rules.{rules}
use Rattle.table_reading.proofs.level.Goals as goal

pub cell-requires-clause-house_number : goal.cell-requires-clause-house_number
unfolding Legible table_in
cell-requires-clause-house_number c = let pre = rw c.in-House.is at c.requires in pre.legible

pub cell-requires-clause-run_bound : goal.cell-requires-clause-run_bound
unfolding Legible table_in
cell-requires-clause-run_bound c = let pre = rw c.in-House.is at c.requires in pre.run_bound

pub returns-in-House : goal.returns-in-House
unfolding table_in
returns-in-House c = rw c.in-House.is c.cell.ensures

pub returns-in-Missing : goal.returns-in-Missing
unfolding table_in
returns-in-Missing c = rw c.in-Missing.is

pub overflow_mul-result : goal.overflow_mul-result
overflow_mul-result c =
    let place : c.in-Own.entries_at + c.args.run * c.in-Own.columns + c.args.column < length c.args.list.now =
    let pre = rw c.in-Own.is at c.requires in
    cell_place _ _ _ _ _ pre.legible _ pre.run_bound.1 _ pre.run_bound.0
    in
    let inside = place in search rules

pub overflow_add-result : goal.overflow_add-result
overflow_add-result c =
    let place : c.in-Own.entries_at + c.args.run * c.in-Own.columns + c.args.column < length c.args.list.now =
    let pre = rw c.in-Own.is at c.requires in
    cell_place _ _ _ _ _ pre.legible _ pre.run_bound.1 _ pre.run_bound.0
    in
    let inside = place in search rules

pub overflow_add-result-in-Own : goal.overflow_add-result-in-Own
overflow_add-result-in-Own c =
    let place : c.in-Own.entries_at + c.args.run * c.in-Own.columns + c.args.column < length c.args.list.now =
    let pre = rw c.in-Own.is at c.requires in
    cell_place _ _ _ _ _ pre.legible _ pre.run_bound.1 _ pre.run_bound.0
    in
    let inside = place in search rules

pub offset_bounds-list-entries_at : goal.offset_bounds-list-entries_at
offset_bounds-list-entries_at c =
    let place : c.in-Own.entries_at + c.args.run * c.in-Own.columns + c.args.column < length c.args.list.now =
    let pre = rw c.in-Own.is at c.requires in
    cell_place _ _ _ _ _ pre.legible _ pre.run_bound.1 _ pre.run_bound.0
    in
    let inside = place in search rules

pub bounds-list-entries_at : goal.bounds-list-entries_at
bounds-list-entries_at c =
    let place : c.in-Own.entries_at + c.args.run * c.in-Own.columns + c.args.column < length c.args.list.now =
    let pre = rw c.in-Own.is at c.requires in
    cell_place _ _ _ _ _ pre.legible _ pre.run_bound.1 _ pre.run_bound.0
    in
    place

pub overflow_cast-result : goal.overflow_cast-result
overflow_cast-result c =
    let pre = rw c.in-Own.is at c.requires in
    record { fits = cell_byte _ _ _ _ _ pre.legible _ pre.run_bound.1 _ pre.run_bound.0 }

pub returns-in-Own : goal.returns-in-Own
returns-in-Own c =
    let pre = rw c.in-Own.is at c.requires in
    rw c.in-Own.is (cell_read _ _ _ _ _ pre.legible _ pre.run_bound.1 _ pre.run_bound.0)
