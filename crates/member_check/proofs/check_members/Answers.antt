-- `check_members` meets its contract. The invariant: in the runs before the one in hand every member is its sum.
use mathlib.Core.Path.{refl, sym, ◌∙◌}
use Rattle.member_check.proofs.Members.{members_in_row, levels_in_row, runs_right_none, runs_right_next, runs_wrong, runs_right}
use Rattle.member_check.proofs.Needed.{runs_needed_lem}
use Rattle.member_check.proofs.check_members.Goals as goal

pub loop-run-init : goal.loop-run-init
loop-run-init c = runs_right_none _ _ _

pub wrong_in_run-requires-clause-all_below : goal.wrong_in_run-requires-clause-all_below
wrong_in_run-requires-clause-all_below c = members_in_row c.requires c.loop-run.run _ c.loop-run-test.true refl

pub wrong_in_run-requires-clause-levels_below : goal.wrong_in_run-requires-clause-levels_below
wrong_in_run-requires-clause-levels_below c = levels_in_row c.requires c.loop-run.run _ c.loop-run-test.true refl

pub returns-in-Some-clause-value : goal.returns-in-Some-clause-value
returns-in-Some-clause-value c =
    let found = sym c.in-Some.is ∙ c.wrong_in_run.ensures in
    let verdict = runs_wrong c.requires c.loop-run.run _ c.loop-run-test.true refl c.loop-run.invariant found in verdict

pub returns-in-Some-clause-runs_needed : goal.returns-in-Some-clause-runs_needed
returns-in-Some-clause-runs_needed c =
    let found = sym c.in-Some.is ∙ c.wrong_in_run.ensures in
    let verdict = runs_wrong c.requires c.loop-run.run _ c.loop-run-test.true refl c.loop-run.invariant found in runs_needed_lem _ _ _ verdict

pub loop-run-preserved : goal.loop-run-preserved
loop-run-preserved c =
    runs_right_next c.requires c.loop-run.run _ c.loop-run-test.true refl c.loop-run.invariant
    (sym c.in_default.is ∙ c.wrong_in_run.ensures)

pub returns-clause-value : goal.returns-clause-value
returns-clause-value c =
    let verdict = runs_right c.requires c.loop-run.run c.loop-run-test.false c.loop-run.invariant in verdict

pub returns-clause-runs_needed : goal.returns-clause-runs_needed
returns-clause-runs_needed c =
    let verdict = runs_right c.requires c.loop-run.run c.loop-run-test.false c.loop-run.invariant in runs_needed_lem _ _ _ verdict
