-- `yurbantze_plan` meets its promise: it is `plan`'s, with the numbers of its answer.
use borrow.Author.Rules.{sfits_of}
use mir.Facts.{to_z-of_z}
use mir.Syntax.{w64}
use mathlib.Core.Path.{refl, ◌∙◌}
use Rattle.promise.proofs.PromisesInNumbers.{in_numbers}
use Rattle.exported.proofs.yurbantze_plan.Goals as goal

pub returns : goal.returns
returns c =
    in_numbers _ _ _ _ _ _ _ c.plan-planned.ensures c.answer_numbers-numbers.ensures refl
    (to_z-of_z {w = w64} (sfits_of c.answer_spare.type_inv) ∙ c.answer_spare.ensures)
