-- `wrong_in_run` meets its contract. The invariant: the members before the one in hand are their sums, and the sum in hand is that of the last of them.
use mathlib.Core.Path.{◌≡◌, sym, ◌∙◌}
use Prim.Native.Nat.{◌+◌}
use native.Mathlib.Omega.{arith}
use Rattle.step_tables.specs.Merge.{member_sum}
use Rattle.merge_questions.specs.Questions.{members_of}
use Rattle.member_check.specs.MemberCheck.{every_run}
use Rattle.member_check.proofs.Members.{sum_first, sum_next, sum_below, right_none, right_next, wrong_found, none_wrong, member_in, level_in}
use Rattle.member_check.proofs.wrong_in_run.Goals as goal

pub bounds-row-c1 : goal.bounds-row-c1
bounds-row-c1 c = member_in _ _ c.requires.all_below 0 (omega arith) c.column_of-c1.ensures

pub bounds-row-c2 : goal.bounds-row-c2
bounds-row-c2 c = member_in _ _ c.requires.all_below 1 (omega arith) c.column_of-c2.ensures

pub loop-h-init : goal.loop-h-init
loop-h-init c =
    let named = c.column_of-c1.ensures in
    (sum_first _ _ _ _ named (level_in _ _ _ c.requires.levels_below 0 (omega arith) named), right_none _ _ _ _)

pub modulo_sum-sum-requires : goal.modulo_sum-sum-requires
modulo_sum-sum-requires c =
    let l = c.loop-h in
    (sum_below _ _ _ _ (omega (arith, c.requires.named.least)) l.h l.invariant.0, level_in _ _ _ c.requires.levels_below 1 (omega arith) c.column_of-c2.ensures)

pub bounds-row-column : goal.bounds-row-column
bounds-row-column c =
    member_in _ _ c.requires.all_below c.loop-h.h c.loop-h-test.true c.column_of-column.ensures

pub returns-then-row-column : goal.returns-then-row-column
returns-then-row-column c =
    let l = c.loop-h in
    -- the sum of the member in hand
    let sum_in_hand : c.modulo_sum-sum.result
    ≡ member_sum c.args.p (members_of c.args.members.now) (every_run c.args.row.now) c.args.run (c.loop-h.h + 1) =
    c.modulo_sum-sum.ensures ∙ sum_next _ _ _ _ c.column_of-c2.ensures l.h (omega arith) l.invariant.0
    in
    wrong_found _ _ _ _ l.h c.column_of-column.ensures (omega arith) (omega arith) l.invariant.1 (λ e. c.if-row-column.true (e ∙ sym sum_in_hand))

pub loop-h-preserved : goal.loop-h-preserved
loop-h-preserved c =
    let l = c.loop-h in
    -- the sum of the member in hand
    let sum_in_hand : c.modulo_sum-sum.result
    ≡ member_sum c.args.p (members_of c.args.members.now) (every_run c.args.row.now) c.args.run (c.loop-h.h + 1) =
    c.modulo_sum-sum.ensures ∙ sum_next _ _ _ _ c.column_of-c2.ensures l.h (omega arith) l.invariant.0
    in
    (sum_in_hand, right_next _ _ _ _ l.h c.column_of-column.ensures (omega arith) l.invariant.1 (c.if-row-column.false ∙ sum_in_hand))

pub returns : goal.returns
returns c = none_wrong _ _ _ _ c.loop-h.h (omega arith) c.loop-h.invariant.1
