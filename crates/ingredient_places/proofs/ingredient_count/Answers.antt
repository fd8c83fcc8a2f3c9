-- `ingredient_places::ingredient_count` meets its contract, from the start of the ingredients.
use mathlib.Core.Path.{sym, ◌∙◌}
use Rattle.order.specs.Grammar.{read_order}
use Rattle.places.specs.Places.{ingredients_of, first_ingredient_place, ingredients_start, ingredient_count}
use Rattle.places.proofs.Lookups.{count_is, count_none}
use Rattle.ingredient_places.proofs.ingredient_count.Goals as goal

pub returns-in-Ok : goal.returns-in-Ok
unfolding ingredients_start ingredient_count
returns-in-Ok c = count_is ingredients_of first_ingredient_place (read_order c.args.list.now) (sym c.ingredients_start.ensures ∙ c.in-Ok.is)

pub returns-in-Err : goal.returns-in-Err
unfolding ingredients_start ingredient_count
returns-in-Err c = count_none ingredients_of first_ingredient_place (read_order c.args.list.now) (sym c.ingredients_start.ensures ∙ c.in-Err.is)
