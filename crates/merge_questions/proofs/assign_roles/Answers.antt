-- `assign_roles` meets its contract. The invariant: the members before the one in hand fit, and have their roles.
use mathlib.Core.Path.{◌∙◌}
use mathlib.Core.List.{List}
use Prim.Native.Nat.{ℕ, ◌-◌, ◌<◌}
use native.Mathlib.Omega.{arith}
use lib.ListN.{length, length-map}
use Rattle.merge_questions.specs.Questions.{members_of}
use Rattle.merge_questions.proofs.Roles.{roles_next, off_sheet, other_levels, named_twice, fits_all}
use Rattle.merge_questions.proofs.assign_roles.Goals as goal
use Rattle.merge_questions.proofs.assign_roles.Goals.{then-h-eq0, else-h-eq0}

-- a place in the list is one among the members
among : (numbers : List ℕ) {h : ℕ} → h < length numbers → h < length (members_of numbers)
among numbers l = rw (length-map numbers (λ x. x - 1)) l

pub returns-then-column-levels-clause-value : goal.returns-then-column-levels-clause-value
returns-then-column-levels-clause-value c =
    off_sheet _ _ _ c.loop-h.h _ (among _ c.loop-h-test.true) c.column_of-column.ensures c.loop-h.invariant c.if-column-levels.true

pub returns-then-levels-column-clause-value : goal.returns-then-levels-column-clause-value
returns-then-levels-column-clause-value c =
    other_levels _ _ _ c.loop-h.h _ (among _ c.loop-h-test.true) c.column_of-column.ensures c.loop-h.invariant c.if-levels-column.true

pub returns-then-roles-column-ne0-clause-value : goal.returns-then-roles-column-ne0-clause-value
returns-then-roles-column-ne0-clause-value c =
    named_twice _ _ _ c.loop-h.h _ (among _ c.loop-h-test.true) c.column_of-column.ensures c.loop-h.invariant c.if-roles-column-ne0.true

pub loop-h-preserved : goal.loop-h-preserved
loop-h-preserved c =
    roles_next _ _ _ c.loop-h.h _ (among _ c.loop-h-test.true) c.column_of-column.ensures c.loop-h.invariant
    c.if-column-levels.false c.if-levels-column.false c.if-roles-column-ne0.false (omega arith)
    (λ z. elim c.if-h-eq0.branch [ then-h-eq0 w ↦ w.roles-is | else-h-eq0 w ↦ absurd (w.if-h-eq0.false z) ])
    (λ z. elim c.if-h-eq0.branch [ then-h-eq0 w ↦ absurd (z w.if-h-eq0.true) | else-h-eq0 w ↦ w.roles-is ])

pub returns-clause-value : goal.returns-clause-value
returns-clause-value c =
    let same = length-map c.args.members.now (λ x. x - 1) in
    fits_all _ _ _ c.loop-h.h (rw same c.loop-h-test.false) c.loop-h.invariant (same ∙ c.requires.named.many)
