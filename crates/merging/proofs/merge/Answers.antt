-- `merge` meets its contract: questions 6 and 7 in turn, and then the step; question 8 is never answered No.
use mathlib.Core.Path.{sym, ◌∙◌}
use native.Mathlib.Omega.{arith}
use lib.Seq.{length-take-le}
use Rattle.layout.proofs.Sheets.{ready_few}
use Rattle.merging.proofs.Operands.{roles_clear, merge_end, merge_named, merge_refused, merge_fitting, merge_wrong, merge_done}
use Rattle.merging.proofs.merge.Goals as goal

pub offset_bounds-list-at : goal.offset_bounds-list-at
offset_bounds-list-at c = omega (arith, merge_end c.requires.ready.readable c.requires.stands)

pub bounds-list-at : goal.bounds-list-at
bounds-list-at c = omega (arith, merge_end c.requires.ready.readable c.requires.stands)

pub assign_roles-requires-clause-named : goal.assign_roles-requires-clause-named
assign_roles-requires-clause-named c =
    let ready = c.requires.ready in merge_named ready.readable c.requires.stands

pub assign_roles-requires-clause-levels_in_bounds : goal.assign_roles-requires-clause-levels_in_bounds
assign_roles-requires-clause-levels_in_bounds c =
    let ready = c.requires.ready in (omega (arith, length-take-le c.args.size.columns c.args.levels.now (ready_few ready), ready.columns_most), roles_clear 128)

pub returns-then-not-assign_roles-clause-left : goal.returns-then-not-assign_roles-clause-left
returns-then-not-assign_roles-clause-left c = merge_refused c.requires.stands c.requires.ready _ (sym (c.if-not-assign_roles.true) ∙ c.assign_roles.ensures.value)

pub returns-then-not-assign_roles-clause-zeros : goal.returns-then-not-assign_roles-clause-zeros
returns-then-not-assign_roles-clause-zeros c = c.requires.ready.scratch_clear

pub check_members-verdict-requires : goal.check_members-verdict-requires
check_members-verdict-requires c =
    merge_fitting c.requires.stands c.requires.ready (sym (c.if-not-assign_roles.false) ∙ c.assign_roles.ensures.value)

pub merge_sheet-requires : goal.merge_sheet-requires
merge_sheet-requires c =
    let called = c.assign_roles in
    let so = c.if-not-assign_roles.false in
    record {
      list = c.args.list.now;
      ready = c.requires.ready;
      fitting = merge_fitting c.requires.stands c.requires.ready (sym so ∙ called.ensures.value);
      enough = called.auto.roles;
      given = called.ensures.has_roles so;
    }

pub returns-in-Some-clause-left : goal.returns-in-Some-clause-left
returns-in-Some-clause-left c = merge_wrong c.requires.stands c.requires.ready (sym (c.if-not-assign_roles.false) ∙ c.assign_roles.ensures.value)
    c.check_members-verdict.ensures.value _ c.in-Some.is

pub returns-in-Some-clause-zeros : goal.returns-in-Some-clause-zeros
returns-in-Some-clause-zeros c = c.requires.ready.scratch_clear

pub returns-clause-left : goal.returns-clause-left
returns-clause-left c =
    let built = c.merge_sheet.ensures in merge_done c.requires.stands c.requires.ready (sym (c.if-not-assign_roles.false) ∙ c.assign_roles.ensures.value)
    c.check_members-verdict.ensures.value _ c.in_default.is _ _ _ built.left

pub returns-clause-zeros : goal.returns-clause-zeros
returns-clause-zeros c =
    let built = c.merge_sheet.ensures in built.zeros
