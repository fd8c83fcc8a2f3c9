-- `ingredient_places::ingredients_start` meets its contract: a list that reads begins with the number of its ingredients.
use mathlib.Core.Path.{sym, ◌∙◌}
use Rattle.order.proofs.Answers.{passed_on}
use Rattle.places.proofs.Lookups.{ingredients_start_lem, ingredients_refused}
use Rattle.ingredient_places.proofs.ingredients_start.Goals as goal

pub returns-in_err-read : goal.returns-in_err-read
returns-in_err-read c =
    passed_on c.from_residual.ensures.1 (ingredients_refused c.args.list.now (sym c.read.ensures ∙ c.in_err-read.was))

pub returns : goal.returns
returns c = c.number.ensures ∙ ingredients_start_lem c.args.list.now (sym c.read.ensures ∙ c.in_ok-read.was)
