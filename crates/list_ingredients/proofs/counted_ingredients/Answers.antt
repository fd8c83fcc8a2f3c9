-- `list_ingredients::counted_ingredients` meets its contract: the number is read, and then that many ingredients.
use mathlib.Core.Path.{sym, ◌∙◌}
use Rattle.order.specs.Answers.{walk_of}
use Rattle.order.proofs.Answers.{passed_on, number_go, number_stops}
use Rattle.list_ingredients.proofs.counted_ingredients.Goals as goal

pub returns-in_err-q : goal.returns-in_err-q
returns-in_err-q c = passed_on c.from_residual.ensures.1 (number_stops _ _ (sym c.number.ensures ∙ c.in_err-q.was))

pub returns : goal.returns
returns c = number_go walk_of _ _ (sym c.number.ensures ∙ c.in_ok-q.was) c.ingredients.ensures
