-- `ingredient_places::ingredient_after` meets its contract: k ingredients are passed over, and the next one is read.
use mathlib.Core.Path.{sym, ap, ◌∙◌}
use Rattle.std.specs.Prelude.{Some, None}
use Rattle.order.specs.Grammar.{read_ingredient}
use Rattle.order.proofs.Answers.{taken, untaken, spot_value, spot_refused}
use Rattle.places.specs.Places.{ingredient_from, ingredient_after}
use Rattle.places.proofs.Lookups.{nth_found, nth_refused, nth_stopped}
use Rattle.ingredient_places.proofs.ingredient_after.Goals as goal

pub returns-in_err-next : goal.returns-in_err-next
unfolding ingredient_after
returns-in_err-next c =
    untaken c.ingredients.result (sym c.ok.ensures.value ∙ c.in_err-next.was) λ refusal e.
    rw c.from_residual.ensures
    (nth_stopped None ingredient_from read_ingredient c.args.k c.args.list.now c.args.start.at (sym c.ingredients.ensures ∙ e))

pub returns-in_err-what : goal.returns-in_err-what
unfolding ingredient_after
returns-in_err-what c =
    let passed = sym c.ingredients.ensures ∙ taken c.ingredients.result (sym c.ok.ensures.value ∙ c.in_ok-next.was) in
    untaken c.ingredient.result (sym c.ok-2.ensures.value ∙ c.in_err-what.was) λ refusal e.
    rw c.from_residual-in_err-what.ensures
    (nth_refused None ingredient_from read_ingredient c.args.k c.args.list.now c.args.start.at passed
    (spot_refused _ _ (sym c.ingredient.ensures ∙ e)))

pub returns : goal.returns
unfolding ingredient_after
returns c =
    let passed = sym c.ingredients.ensures ∙ taken c.ingredients.result (sym c.ok.ensures.value ∙ c.in_ok-next.was) in
    let read = sym c.ingredient.ensures ∙ taken c.ingredient.result (sym c.ok-2.ensures.value ∙ c.in_ok-what.was) in
    spot_value _ _ read λ g same v.
    ap (λ what. Some what) same
    ∙ nth_found None ingredient_from read_ingredient c.args.k c.args.list.now c.args.start.at passed v
