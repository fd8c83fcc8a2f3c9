-- `stepping::proceed` meets its contract: the step of that number of the list is carried out on the sheet in hand.
use mathlib.Core.Path.{refl, sym, ◌∙◌}
use Rattle.layout.specs.Step.{Left}
use Rattle.sheet_in_hand.proofs.Stepping.{proceed_found, proceed_missing}
use Rattle.stepping.proofs.proceed.Goals as goal

pub returns-in_default-clause-left : goal.returns-in_default-clause-left
unfolding Left
returns-in_default-clause-left c = rw (proceed_missing c.requires.prepared.readable _ c.requires.le_number _ (sym c.step_at.ensures ∙ c.in_default.is)) (refl, refl, refl)

pub returns-in_default-clause-zeros : goal.returns-in_default-clause-zeros
unfolding Left
returns-in_default-clause-zeros c = c.requires.prepared.scratch_clear

pub step-requires-clause-stands : goal.step-requires-clause-stands
step-requires-clause-stands c = record {
  number = c.args.number;
  found = sym c.step_at.ensures ∙ c.in-Some.is;
}

pub step-requires-clause-prepared : goal.step-requires-clause-prepared
step-requires-clause-prepared c = c.requires.prepared

pub returns-clause-left : goal.returns-clause-left
returns-clause-left c =
    rw (proceed_found c.requires.prepared.readable _ c.requires.le_number _ _ (sym c.step_at.ensures ∙ c.in-Some.is)) c.step.ensures.left

pub returns-clause-zeros : goal.returns-clause-zeros
returns-clause-zeros c = c.step.ensures.zeros
