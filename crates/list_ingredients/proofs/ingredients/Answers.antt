-- `list_ingredients::ingredients` meets its contract. The invariant: reading what is left from the cursor on gives the answer of the whole.
use mathlib.Core.Path.{sym, ◌∙◌}
use Rattle.order.specs.Grammar.{read_ingredient}
use Rattle.order.proofs.Answers.{spot_value, spot_refused, passed_on, times_on, times_refused, times_done}
use Rattle.list_ingredients.proofs.ingredients.Goals as goal

pub returns-in_err-c : goal.returns-in_err-c
returns-in_err-c c =
    let e = spot_refused _ _ (sym c.ingredient.ensures ∙ c.in_err-c.was) in
    passed_on c.from_residual.ensures.1
    (sym (times_refused read_ingredient c.args.list.now c.loop.c.at c.args.n c.loop.counter c.loop-test.true e) ∙ c.loop.invariant)

pub loop-preserved : goal.loop-preserved
loop-preserved c =
    spot_value _ _ (sym c.ingredient.ensures ∙ c.in_ok-c.was) λ g what e.
    sym (times_on read_ingredient c.args.list.now c.loop.c.at c.args.n c.loop.counter c.loop-test.true e) ∙ c.loop.invariant

pub returns : goal.returns
returns c =
    sym (times_done read_ingredient c.args.list.now c.loop.c.at c.args.n c.loop.counter c.loop-test.false) ∙ c.loop.invariant
