-- `passing::ingredient_passing` meets its contract: each kind has its check, and what the look-up found stands in the list.
-- Assumes nothing.
use mathlib.Core.Path.{refl, sym, ap, ◌∙◌}
use Rattle.std.specs.Prelude.{Some}
use Rattle.ingredients.proofs.Standing.{table_stands, matrix_stands, generator_stands}
use Rattle.question_4.proofs.Questions.{readable, table_answer, matrix_answer, generator_answer, missing_answer}
use Rattle.passing.proofs.ingredient_passing.Goals as goal

pub table_verdict-requires-clause-table_stands : goal.table_verdict-requires-clause-table_stands
table_verdict-requires-clause-table_stands c =
    let there = sym c.ingredient_at.ensures ∙ c.in-Some-Table.is ∙ ap Some c.in-Some-Table.field-0-is in
    readable c.args.list.now c.requires.list_value λ o reads range.
    table_stands c.args.list.now o reads range c.args.i c.requires.le_i there

pub matrix_finding-requires-clause-matrix_stands : goal.matrix_finding-requires-clause-matrix_stands
matrix_finding-requires-clause-matrix_stands c =
    let there = sym c.ingredient_at.ensures ∙ c.in-Some-Matrix.is ∙ ap Some c.in-Some-Matrix.field-0-is in
    readable c.args.list.now c.requires.list_value λ o reads range.
    matrix_stands c.args.list.now o reads range c.args.i c.requires.le_i there

pub generator_finding-requires-clause-generator_stands : goal.generator_finding-requires-clause-generator_stands
generator_finding-requires-clause-generator_stands c =
    let there = sym c.ingredient_at.ensures ∙ c.in-Some-Generator.is ∙ ap Some c.in-Some-Generator.field-0-is in
    readable c.args.list.now c.requires.list_value λ o reads range.
    generator_stands c.args.list.now o reads range c.args.i c.requires.le_i there

pub returns-in-Some-Table-clause-value : goal.returns-in-Some-Table-clause-value
returns-in-Some-Table-clause-value c =
    let there = sym c.ingredient_at.ensures ∙ c.in-Some-Table.is ∙ ap Some c.in-Some-Table.field-0-is in
    table_answer _ _ there c.table_verdict.ensures.value c.table_passing.ensures

pub returns-in-Some-Matrix-clause-value : goal.returns-in-Some-Matrix-clause-value
returns-in-Some-Matrix-clause-value c =
    let there = sym c.ingredient_at.ensures ∙ c.in-Some-Matrix.is ∙ ap Some c.in-Some-Matrix.field-0-is in
    matrix_answer _ _ there c.matrix_finding.ensures.value c.matrix_passing.ensures

pub returns-in-Some-Generator-clause-value : goal.returns-in-Some-Generator-clause-value
returns-in-Some-Generator-clause-value c =
    let there = sym c.ingredient_at.ensures ∙ c.in-Some-Generator.is ∙ ap Some c.in-Some-Generator.field-0-is in
    generator_answer _ _ there c.generator_finding.ensures.value c.generator_passing.ensures

pub returns-in-None-clause-value : goal.returns-in-None-clause-value
returns-in-None-clause-value c = missing_answer _ _ (sym c.ingredient_at.ensures ∙ c.in-None.is)
