-- `field` meets its contract: the look-up of the ingredient finds a generator, whose sheet is filled, or the step is refused.
-- Assumes nothing.
use mathlib.Core.Path.{refl, sym, ap, ◌∙◌}
use Rattle.std.specs.Prelude.{Some}
use native.Mathlib.Omega.{arith}
use Rattle.layout.specs.Step.{Left}
use Rattle.layout.proofs.Operands.{list_short, operand_in}
use Rattle.generating.proofs.FieldNamed.{some_same, field_generator_lem, field_filled, field_refused}
use Rattle.generating.proofs.field.Goals as goal

pub offset_bounds-list-at : goal.offset_bounds-list-at
offset_bounds-list-at c =
    let pre = c.requires in omega (arith, operand_in pre.readable pre.stands, list_short pre.readable)

pub bounds-list-at : goal.bounds-list-at
bounds-list-at c = let pre = c.requires in operand_in pre.readable pre.stands

pub overflow_cast-g : goal.overflow_cast-g
overflow_cast-g c =
    let v = c.in-Generator in
    let found = sym c.ingredient_at.ensures ∙ c.in-Some.is ∙ ap Some v.is in
    omega (arith, (field_generator_lem c.requires.readable c.requires.stands (record { t = v.t; n = v.n; s = v.s; widths_at = v.widths_at; width = v.width; entries_at = v.entries_at }) found).size_most)

pub fill-requires-clause-field_stands : goal.fill-requires-clause-field_stands
fill-requires-clause-field_stands c =
    let v = c.in-Generator in
    let found = sym c.ingredient_at.ensures ∙ c.in-Some.is ∙ ap Some v.is in
    field_generator_lem c.requires.readable c.requires.stands _ found

pub returns : goal.returns
returns c =
    let v = c.in-Generator in
    let found = sym c.ingredient_at.ensures ∙ c.in-Some.is ∙ ap Some v.is in
    rw (field_filled c.requires.readable c.requires.stands (record { t = v.t; n = v.n; s = v.s; widths_at = v.widths_at; width = v.width; entries_at = v.entries_at }) found) c.fill.ensures

pub returns-in_default : goal.returns-in_default
unfolding Left
returns-in_default c =
    rw (field_refused c.requires.readable c.requires.stands _ c.ingredient_at.ensures (λ g e. c.in_default.not-Some _ e)) (refl, refl, refl)

pub returns-in_default-what : goal.returns-in_default-what
unfolding Left
returns-in_default-what c =
    rw (field_refused c.requires.readable c.requires.stands _ c.ingredient_at.ensures (λ g e. c.in_default-what.not-Generator g.t g.n g.s g.widths_at g.width g.entries_at (some_same (sym c.in-Some.is ∙ e)))) (refl, refl, refl)
