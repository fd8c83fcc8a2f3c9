-- `reading::read` meets its contract: at each way out the length, the ingredients, the steps and the end say what the definition gives.
use mathlib.Core.Path.{sym, ◌∙◌}
use Rattle.order.proofs.Answers.{passed_on}
use Rattle.order.proofs.Whole.{too_long, ingredients_refused, steps_refused, left_over, to_the_end}
use Rattle.reading.proofs.read.Goals as goal

pub returns-then-list-gt32768 : goal.returns-then-list-gt32768
returns-then-list-gt32768 c = too_long c.args.list.now c.if-list-gt32768.true

pub returns-in_err-next : goal.returns-in_err-next
returns-in_err-next c =
    passed_on c.from_residual.ensures.1
    (ingredients_refused c.args.list.now c.if-list-gt32768.false (sym c.counted_ingredients.ensures ∙ c.in_err-next.was))

pub returns-in_err-end : goal.returns-in_err-end
returns-in_err-end c =
    passed_on c.from_residual-in_err-end.ensures.1
    (steps_refused c.args.list.now c.if-list-gt32768.false (sym c.counted_ingredients.ensures ∙ c.in_ok-next.was)
    (sym c.counted_steps.ensures ∙ c.in_err-end.was))

pub returns-then-at-list : goal.returns-then-at-list
returns-then-at-list c =
    left_over c.args.list.now c.if-list-gt32768.false (sym c.counted_ingredients.ensures ∙ c.in_ok-next.was)
    (sym c.counted_steps.ensures ∙ c.in_ok-end.was) c.if-at-list.true

pub returns : goal.returns
returns c =
    to_the_end c.args.list.now c.if-list-gt32768.false (sym c.counted_ingredients.ensures ∙ c.in_ok-next.was)
    (sym c.counted_steps.ensures ∙ c.in_ok-end.was) c.if-at-list.false
