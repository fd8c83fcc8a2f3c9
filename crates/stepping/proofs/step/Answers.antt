-- `stepping::step` meets its contract: the kind that is allowed chooses the step that is carried out, any other is refused.
use mathlib.Core.Path.{refl, sym, ◌∙◌}
use native.Mathlib.Omega.{arith}
use Rattle.layout.specs.Step.{Left}
use Rattle.sheet_in_hand.proofs.Stepping.{allowed_first, allowed_later, numbered_first, numbered_later, numbered_refused, no_other_kind}
use Rattle.stepping.proofs.step.Goals as goal

pub returns-then-not-allowed-clause-left : goal.returns-then-not-allowed-clause-left
unfolding Left
returns-then-not-allowed-clause-left c =
    rw (numbered_refused _ _ _ _ _ _ _ c.requires.prepared.readable c.requires.stands (sym c.allowed.ensures ∙ c.if-not-allowed.true)) (refl, refl, refl)

pub returns-then-not-allowed-clause-zeros : goal.returns-then-not-allowed-clause-zeros
returns-then-not-allowed-clause-zeros c = c.requires.prepared.scratch_clear

pub take-requires-clause-stands : goal.take-requires-clause-stands
take-requires-clause-stands c = rw c.in-1.is at c.requires.stands

pub take-requires-clause-readable : goal.take-requires-clause-readable
take-requires-clause-readable c = c.requires.prepared.readable

pub take-requires-clause-in_bounds : goal.take-requires-clause-in_bounds
take-requires-clause-in_bounds c =
    let blank = c.requires.prepared.blank (allowed_first _ _ (sym c.allowed.ensures ∙ c.if-not-allowed.false) (omega arith)) in (c.requires.prepared.long.table_long, blank.0)

pub take-requires-clause-in_bounds_2 : goal.take-requires-clause-in_bounds_2
take-requires-clause-in_bounds_2 c =
    let blank = c.requires.prepared.blank (allowed_first _ _ (sym c.allowed.ensures ∙ c.if-not-allowed.false) (omega arith)) in (c.requires.prepared.long.levels_long, blank.1)

pub field-requires-clause-stands : goal.field-requires-clause-stands
field-requires-clause-stands c = rw c.in-2.is at c.requires.stands

pub field-requires-clause-readable : goal.field-requires-clause-readable
field-requires-clause-readable c = c.requires.prepared.readable

pub field-requires-clause-in_bounds : goal.field-requires-clause-in_bounds
field-requires-clause-in_bounds c =
    let blank = c.requires.prepared.blank (allowed_first _ _ (sym c.allowed.ensures ∙ c.if-not-allowed.false) (omega arith)) in (c.requires.prepared.long.table_long, blank.0)

pub field-requires-clause-in_bounds_2 : goal.field-requires-clause-in_bounds_2
field-requires-clause-in_bounds_2 c =
    let blank = c.requires.prepared.blank (allowed_first _ _ (sym c.allowed.ensures ∙ c.if-not-allowed.false) (omega arith)) in (c.requires.prepared.long.levels_long, blank.1)

pub sum-requires-clause-stands : goal.sum-requires-clause-stands
sum-requires-clause-stands c = rw c.in-3.is at c.requires.stands

pub sum-requires-clause-ready : goal.sum-requires-clause-ready
sum-requires-clause-ready c = c.requires.prepared.ready (allowed_later _ _ (sym c.allowed.ensures ∙ c.if-not-allowed.false) (omega arith))

pub merge-requires-clause-stands : goal.merge-requires-clause-stands
merge-requires-clause-stands c = rw c.in-4.is at c.requires.stands

pub merge-requires-clause-ready : goal.merge-requires-clause-ready
merge-requires-clause-ready c = c.requires.prepared.ready (allowed_later _ _ (sym c.allowed.ensures ∙ c.if-not-allowed.false) (omega arith))

pub split-requires-clause-stands : goal.split-requires-clause-stands
split-requires-clause-stands c = rw c.in-5.is at c.requires.stands

pub split-requires-clause-ready : goal.split-requires-clause-ready
split-requires-clause-ready c = c.requires.prepared.ready (allowed_later _ _ (sym c.allowed.ensures ∙ c.if-not-allowed.false) (omega arith))

pub cross-requires-clause-stands : goal.cross-requires-clause-stands
cross-requires-clause-stands c = rw c.in-6.is at c.requires.stands

pub cross-requires-clause-ready : goal.cross-requires-clause-ready
cross-requires-clause-ready c = c.requires.prepared.ready (allowed_later _ _ (sym c.allowed.ensures ∙ c.if-not-allowed.false) (omega arith))

pub returns-in-1-clause-left : goal.returns-in-1-clause-left
returns-in-1-clause-left c =
    rw (numbered_first _ _ _ _ _ _ _ (allowed_first _ _ (sym c.allowed.ensures ∙ c.if-not-allowed.false) (omega arith)), c.in-1.is) c.take.ensures

pub returns-in-1-clause-zeros : goal.returns-in-1-clause-zeros
returns-in-1-clause-zeros c = c.requires.prepared.scratch_clear

pub returns-in-2-clause-left : goal.returns-in-2-clause-left
returns-in-2-clause-left c =
    rw (numbered_first _ _ _ _ _ _ _ (allowed_first _ _ (sym c.allowed.ensures ∙ c.if-not-allowed.false) (omega arith)), c.in-2.is) c.field.ensures

pub returns-in-2-clause-zeros : goal.returns-in-2-clause-zeros
returns-in-2-clause-zeros c = c.requires.prepared.scratch_clear

pub returns-in-3-clause-left : goal.returns-in-3-clause-left
returns-in-3-clause-left c =
    rw (numbered_later _ _ _ _ _ _ _ (allowed_later _ _ (sym c.allowed.ensures ∙ c.if-not-allowed.false) (omega arith)), c.in-3.is) c.sum.ensures.left

pub returns-in-3-clause-zeros : goal.returns-in-3-clause-zeros
returns-in-3-clause-zeros c = c.sum.ensures.zeros

pub returns-in-4-clause-left : goal.returns-in-4-clause-left
returns-in-4-clause-left c =
    rw (numbered_later _ _ _ _ _ _ _ (allowed_later _ _ (sym c.allowed.ensures ∙ c.if-not-allowed.false) (omega arith)), c.in-4.is) c.merge.ensures.left

pub returns-in-4-clause-zeros : goal.returns-in-4-clause-zeros
returns-in-4-clause-zeros c = c.merge.ensures.zeros

pub returns-in-5-clause-left : goal.returns-in-5-clause-left
returns-in-5-clause-left c =
    rw (numbered_later _ _ _ _ _ _ _ (allowed_later _ _ (sym c.allowed.ensures ∙ c.if-not-allowed.false) (omega arith)), c.in-5.is) c.split.ensures.left

pub returns-in-5-clause-zeros : goal.returns-in-5-clause-zeros
returns-in-5-clause-zeros c = c.split.ensures.zeros

pub returns-in-6-clause-left : goal.returns-in-6-clause-left
returns-in-6-clause-left c =
    rw (numbered_later _ _ _ _ _ _ _ (allowed_later _ _ (sym c.allowed.ensures ∙ c.if-not-allowed.false) (omega arith)), c.in-6.is) c.cross.ensures.left

pub returns-in-6-clause-zeros : goal.returns-in-6-clause-zeros
returns-in-6-clause-zeros c = c.cross.ensures.zeros

pub returns-in_default-clause-left : goal.returns-in_default-clause-left
returns-in_default-clause-left c =
    absurd (no_other_kind c.requires.prepared.readable c.requires.stands (omega arith) (omega arith) (omega arith) (omega arith) (omega arith) (omega arith))

pub returns-in_default-clause-zeros : goal.returns-in_default-clause-zeros
returns-in_default-clause-zeros c = c.requires.prepared.scratch_clear
