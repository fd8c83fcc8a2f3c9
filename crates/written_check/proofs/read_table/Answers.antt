-- `read_table` meets its contract: question 2, in the order of the definition.
-- Assumes nothing.
use mathlib.Core.Path.{sym, ◌∙◌}
use Rattle.order.proofs.Answers.{passed_on}
use Rattle.written_check.proofs.Answers.{too_long, no_table, table_refused, table_found}
use Rattle.written_check.proofs.read_table.Goals as goal

pub returns-then-list-gt32768 : goal.returns-then-list-gt32768
returns-then-list-gt32768 c = too_long _ c.if-list-gt32768.true

pub returns-then-peek-ne1 : goal.returns-then-peek-ne1
returns-then-peek-ne1 c = no_table _ c.if-list-gt32768.false (λ e. c.if-peek-ne1.true (c.peek.ensures ∙ e))

pub returns-in_err-what : goal.returns-in_err-what
returns-in_err-what c =
    passed_on c.from_residual.ensures.1
    (table_refused _ c.if-list-gt32768.false (sym c.peek.ensures ∙ c.if-peek-ne1.false)
    (sym c.ingredient.ensures ∙ c.in_err-what.was))

pub returns : goal.returns
returns c =
    table_found _ c.if-list-gt32768.false (sym c.peek.ensures ∙ c.if-peek-ne1.false)
    (sym c.ingredient.ensures ∙ c.in_ok-what.was) c.to_end.ensures
