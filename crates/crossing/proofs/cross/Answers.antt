-- `crossing::cross` meets its contract: question 5 of the operands, and then question 6.
use mathlib.Core.Path.{sym, ◌∙◌}
use native.Mathlib.Omega.{arith}
use Rattle.layout.specs.Bytes.{sheet_in}
use Rattle.sum_bytes.proofs.Sums.{part_same}
use Rattle.sum_bytes.proofs.SumNames.{cross_operands_known, named_known, summands_named}
use Rattle.crossing.proofs.Names.{left_unnamed, left_one_sided, left_named}
use Rattle.crossing.proofs.cross.Goals as goal

pub summands-requires : goal.summands-requires
summands-requires c = (cross_operands_known c.requires.ready.readable c.requires.stands).0

pub overflow_add-start : goal.overflow_add-start
overflow_add-start c = omega (arith, (cross_operands_known c.requires.ready.readable c.requires.stands).1)

pub offset_bounds-list-at : goal.offset_bounds-list-at
offset_bounds-list-at c = omega (arith, (cross_operands_known c.requires.ready.readable c.requires.stands).1)

pub bounds-list-at : goal.bounds-list-at
bounds-list-at c = omega (arith, (cross_operands_known c.requires.ready.readable c.requires.stands).1)

pub overflow_add-end : goal.overflow_add-end
overflow_add-end c = omega (arith, (cross_operands_known c.requires.ready.readable c.requires.stands).1)

pub overflow_add-end-2 : goal.overflow_add-end-2
overflow_add-end-2 c = omega (arith, (cross_operands_known c.requires.ready.readable c.requires.stands).1)

pub offset_bounds-list-end : goal.offset_bounds-list-end
offset_bounds-list-end c = omega (arith, (cross_operands_known c.requires.ready.readable c.requires.stands).1)

pub bounds-list-end : goal.bounds-list-end
bounds-list-end c = (cross_operands_known c.requires.ready.readable c.requires.stands).1

pub returns-then-is_missing-clause-left : goal.returns-then-is_missing-clause-left
returns-then-is_missing-clause-left c =
    let operands = cross_operands_known c.requires.ready.readable c.requires.stands in
    let named = summands_named c.requires.ready.readable operands.0 (sym c.in-Some.is ∙ c.summands.ensures) in
    left_one_sided c.requires.ready.readable c.args.at c.args.number (sheet_in c.args.table.now c.args.levels.now c.args.size) _ _ named operands.2
    c.table_named-h.ensures (sym c.is_missing.ensures ∙ c.if-is_missing.true)

pub offset_bounds-list-start : goal.offset_bounds-list-start
offset_bounds-list-start c = omega (arith, (cross_operands_known c.requires.ready.readable c.requires.stands).1)

pub slice_bounds-fitting_cross-end : goal.slice_bounds-fitting_cross-end
slice_bounds-fitting_cross-end c = omega (arith, (cross_operands_known c.requires.ready.readable c.requires.stands).1)

pub fitting_cross-requires-clause-ds_nonzero : goal.fitting_cross-requires-clause-ds_nonzero
fitting_cross-requires-clause-ds_nonzero c =
    let operands = cross_operands_known c.requires.ready.readable c.requires.stands in
    let named = summands_named c.requires.ready.readable operands.0 (sym c.in-Some.is ∙ c.summands.ensures) in
    rw part_same (named.some_matrices, named.each)

pub fitting_cross-requires-clause-legible : goal.fitting_cross-requires-clause-legible
fitting_cross-requires-clause-legible c =
    let operands = cross_operands_known c.requires.ready.readable c.requires.stands in
    let named = summands_named c.requires.ready.readable operands.0 (sym c.in-Some.is ∙ c.summands.ensures) in
    (named.legible, named.narrow)

pub fitting_cross-requires-clause-legible_2 : goal.fitting_cross-requires-clause-legible_2
fitting_cross-requires-clause-legible_2 c = rw c.table_named-h.ensures (named_known c.requires.ready.readable _)

pub returns-in_default-clause-left : goal.returns-in_default-clause-left
returns-in_default-clause-left c =
    let operands = cross_operands_known c.requires.ready.readable c.requires.stands in
    left_unnamed c.requires.ready.readable c.args.at c.args.number (sheet_in c.args.table.now c.args.levels.now c.args.size) _ _ operands.0
    (sym c.in_default.is ∙ c.summands.ensures)

pub returns-clause-left : goal.returns-clause-left
returns-clause-left c =
    let operands = cross_operands_known c.requires.ready.readable c.requires.stands in
    let named = summands_named c.requires.ready.readable operands.0 (sym c.in-Some.is ∙ c.summands.ensures) in
    let made = c.fitting_cross in
    left_named c.requires.ready.readable c.args.at c.args.number (sheet_in c.args.table.now c.args.levels.now c.args.size) _ _ named operands.2
    c.table_named-h.ensures (sym c.is_missing.ensures ∙ c.if-is_missing.false) made.result _ _ (rw part_same at made.ensures.left)
