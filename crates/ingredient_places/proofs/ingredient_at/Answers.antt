-- `ingredient_places::ingredient_at` meets its contract: a number past the last has no ingredient, and any other stands after those before it.
use mathlib.Core.Path.{◌≡◌, sym, ◌∙◌}
use native.Mathlib.Omega.{arith}
use Rattle.std.specs.Prelude.{None}
use Rattle.order.specs.Order.{written_ingredient}
use Rattle.order.specs.Grammar.{read_order}
use Rattle.order.proofs.Answers.{taken, untaken}
use Rattle.order.proofs.IngredientLaw.{ingredient_law}
use Rattle.places.specs.Places.{ingredients_of, first_ingredient_place, ingredients_start, ingredient_from, ingredient_at, ingredient_after}
use Rattle.places.proofs.Parts.{ingredients_times}
use Rattle.places.proofs.Lookups.{item_zero, item_past, item_found, item_refused}
use Rattle.ingredient_places.proofs.ingredient_at.Goals as goal

pub returns-in_err-q : goal.returns-in_err-q
unfolding ingredient_at ingredients_start
returns-in_err-q c =
    untaken c.ingredients_start.result (sym c.ok.ensures.value ∙ c.in_err-q.was) λ refusal e.
    rw c.from_residual.ensures
    (item_refused ingredients_of first_ingredient_place None ingredient_from written_ingredient (read_order c.args.list.now) c.args.i
    (sym c.ingredients_start.ensures ∙ e))

pub returns-then-i-eq0 : goal.returns-then-i-eq0
unfolding ingredient_at
returns-then-i-eq0 c = rw c.if-i-eq0.true (item_zero ingredients_of first_ingredient_place None ingredient_from written_ingredient (read_order c.args.list.now))

pub returns-then-q-i : goal.returns-then-q-i
unfolding ingredient_at ingredients_start
returns-then-q-i c =
    let started = sym c.ingredients_start.ensures ∙ taken c.ingredients_start.result (sym c.ok.ensures.value ∙ c.in_ok-q.was) in
    item_past ingredients_of first_ingredient_place None ingredient_from written_ingredient (read_order c.args.list.now) c.args.i started c.if-q-i.true

pub returns : goal.returns
unfolding ingredient_at ingredient_after ingredients_start
returns c =
    let started = sym c.ingredients_start.ensures ∙ taken c.ingredients_start.result (sym c.ok.ensures.value ∙ c.in_ok-q.was) in
    c.ingredient_after.ensures
    ∙ item_found ingredients_of first_ingredient_place None ingredient_from written_ingredient ingredient_law c.args.list.now (read_order c.args.list.now) c.args.i started (ingredients_times c.args.list.now) (omega arith) (omega arith)
