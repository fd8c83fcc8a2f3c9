-- `entry_range::located_range` meets its contract: each kind hands its limits and its places to the search, as in the definition.
use native.Mathlib.Omega.{arith}
use Rattle.order.specs.declared.Located.TheVariants.{Table, Matrix, Generator}
use Rattle.entry_range.specs.Search.{Inside, located_range}
use Rattle.row_limits.proofs.Rows.{limits_part, limits_part_length}
use Rattle.entry_range.proofs.located_range.Goals as goal

pub overflow_add-levels_end : goal.overflow_add-levels_end
overflow_add-levels_end c =
    let inside : Inside c.args.list.now
    (Table c.in-Table.rows c.in-Table.columns
    c.in-Table.levels_at c.in-Table.entries_at) =
    rw c.in-Table.is at c.requires
    in
    omega (arith, inside.0)

pub offset_bounds-list-levels_at : goal.offset_bounds-list-levels_at
offset_bounds-list-levels_at c =
    let inside : Inside c.args.list.now
    (Table c.in-Table.rows c.in-Table.columns
    c.in-Table.levels_at c.in-Table.entries_at) =
    rw c.in-Table.is at c.requires
    in
    omega (arith, inside.0)

pub first_high-requires : goal.first_high-requires
first_high-requires c =
    let inside : Inside c.args.list.now
    (Table c.in-Table.rows c.in-Table.columns
    c.in-Table.levels_at c.in-Table.entries_at) =
    rw c.in-Table.is at c.requires
    in
    rw (limits_part_length _ c.in-Table.levels_at c.in-Table.columns inside.0) inside.1

pub first_not_below-requires : goal.first_not_below-requires
first_not_below-requires c =
    let inside_matrix : Inside c.args.list.now
    (Matrix c.in-Matrix.rows c.in-Matrix.columns
    c.in-Matrix.p c.in-Matrix.entries_at) =
    rw c.in-Matrix.is at c.requires
    in
    inside_matrix

pub first_not_below-requires-in-Generator : goal.first_not_below-requires-in-Generator
first_not_below-requires-in-Generator c =
    let inside_generator : Inside c.args.list.now
    (Generator c.in-Generator.t c.in-Generator.n c.in-Generator.s
    c.in-Generator.widths_at c.in-Generator.width c.in-Generator.entries_at) =
    rw c.in-Generator.is at c.requires
    in
    inside_generator

pub returns-in-Table : goal.returns-in-Table
unfolding located_range
returns-in-Table c =
    rw (c.in-Table.is, ← limits_part _ c.in-Table.levels_at c.in-Table.columns) c.first_high.ensures

pub returns-in-Matrix : goal.returns-in-Matrix
unfolding located_range
returns-in-Matrix c = rw c.in-Matrix.is c.first_not_below.ensures

pub returns-in-Generator : goal.returns-in-Generator
unfolding located_range
returns-in-Generator c = rw c.in-Generator.is c.first_not_below-in-Generator.ensures
