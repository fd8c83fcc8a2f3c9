-- `step_places::steps_start` meets its contract: the number of steps stands after the ingredients.
use mathlib.Core.Path.{sym, ◌∙◌}
use Rattle.order.proofs.Answers.{passed_on}
use Rattle.places.proofs.Lookups.{steps_start_lem, steps_refused, ingredients_read}
use Rattle.step_places.proofs.steps_start.Goals as goal

pub returns-in_err-read : goal.returns-in_err-read
returns-in_err-read c =
    passed_on c.from_residual.ensures.1 (steps_refused c.args.list.now (sym c.read.ensures ∙ c.in_err-read.was))

pub returns-in_err-next : goal.returns-in_err-next
returns-in_err-next c =
    ingredients_read c.args.list.now (sym c.read.ensures ∙ c.in_ok-read.was) (sym c.counted_ingredients.ensures ∙ c.in_err-next.was)

pub returns : goal.returns
returns c =
    c.number.ensures
    ∙ steps_start_lem c.args.list.now (sym c.read.ensures ∙ c.in_ok-read.was) (sym c.counted_ingredients.ensures ∙ c.in_ok-next.was)
