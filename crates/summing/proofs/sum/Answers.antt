-- `summing::sum` meets its contract: question 5 of the operands, and then question 6.
use mathlib.Core.Path.{sym, ◌∙◌}
use native.Mathlib.Nat.{le_of_lt}
use native.Mathlib.Omega.{arith}
use Rattle.layout.specs.Bytes.{sheet_in}
use Rattle.sum_bytes.specs.Summing.{SumOperands}
use Rattle.sum_bytes.proofs.Sums.{part_same}
use Rattle.sum_bytes.proofs.SumNames.{AllNamed, operands_known, summands_named, left_unnamed, left_named}
use Rattle.summing.proofs.sum.Goals as goal

pub summands-requires : goal.summands-requires
summands-requires c =
    let operands : SumOperands c.args.list.now c.args.at =
    operands_known c.requires.ready.readable c.requires.stands
    in
    operands

pub overflow_add-start : goal.overflow_add-start
overflow_add-start c =
    let operands : SumOperands c.args.list.now c.args.at =
    operands_known c.requires.ready.readable c.requires.stands
    in
    omega (arith, operands.within)

pub offset_bounds-list-at : goal.offset_bounds-list-at
offset_bounds-list-at c =
    let operands : SumOperands c.args.list.now c.args.at =
    operands_known c.requires.ready.readable c.requires.stands
    in
    omega (arith, operands.within)

pub bounds-list-at : goal.bounds-list-at
bounds-list-at c =
    let operands : SumOperands c.args.list.now c.args.at =
    operands_known c.requires.ready.readable c.requires.stands
    in
    omega (arith, operands.within)

pub overflow_add-end : goal.overflow_add-end
overflow_add-end c =
    let operands : SumOperands c.args.list.now c.args.at =
    operands_known c.requires.ready.readable c.requires.stands
    in
    omega (arith, operands.within)

pub offset_bounds-list-start : goal.offset_bounds-list-start
offset_bounds-list-start c =
    let operands : SumOperands c.args.list.now c.args.at =
    operands_known c.requires.ready.readable c.requires.stands
    in
    omega (arith, operands.within)

pub fitting_sum-requires-clause-ds_nonzero : goal.fitting_sum-requires-clause-ds_nonzero
fitting_sum-requires-clause-ds_nonzero c =
    let operands = operands_known c.requires.ready.readable c.requires.stands in
    let all = summands_named c.requires.ready.readable operands (sym c.in-Some.is ∙ c.summands.ensures) in
    rw part_same (all.some_matrices, all.first)

pub fitting_sum-requires-clause-legible : goal.fitting_sum-requires-clause-legible
fitting_sum-requires-clause-legible c =
    let operands = operands_known c.requires.ready.readable c.requires.stands in
    let all = summands_named c.requires.ready.readable operands (sym c.in-Some.is ∙ c.summands.ensures) in
    (all.legible, all.narrow)

pub returns-in_default-clause-left : goal.returns-in_default-clause-left
returns-in_default-clause-left c =
    let operands : SumOperands c.args.list.now c.args.at =
    operands_known c.requires.ready.readable c.requires.stands
    in left_unnamed c.requires.ready.readable c.args.at c.args.number (sheet_in c.args.table.now c.args.levels.now c.args.size) _ _ operands
    (sym c.in_default.is ∙ c.summands.ensures)

pub returns-clause-left : goal.returns-clause-left
returns-clause-left c =
    let named : AllNamed c.requires.ready.readable c.args.at c.in-Some.k =
    let operands : SumOperands c.args.list.now c.args.at =
    operands_known c.requires.ready.readable c.requires.stands
    in
    summands_named c.requires.ready.readable operands (sym c.in-Some.is ∙ c.summands.ensures)
    in
    let made = c.fitting_sum in left_named c.requires.ready.readable c.args.at c.args.number (sheet_in c.args.table.now c.args.levels.now c.args.size) _ _ named made.result _ _
    (rw part_same at made.ensures.left)

pub slice_bounds-fitting_sum-end : goal.slice_bounds-fitting_sum-end
slice_bounds-fitting_sum-end c = let operands = operands_known c.requires.ready.readable c.requires.stands in le_of_lt operands.within
