-- `list_operands::cross_operands` meets its contract: the operands of SUM are read, and then the ingredient.
use mathlib.Core.Path.{sym, ◌∙◌}
use Rattle.order.specs.Order.{CROSS}
use Rattle.order.specs.Grammar.{read_cross}
use Rattle.order.specs.Answers.{walk_of}
use Rattle.order.proofs.Answers.{passed_on, walk_go, walk_stops, number_last}
use Rattle.order.proofs.Stages.{sum_ends}
use Rattle.list_operands.proofs.cross_operands.Goals as goal

pub returns-in_err-next : goal.returns-in_err-next
unfolding read_cross
returns-in_err-next c =
    passed_on c.from_residual.ensures.1 (walk_stops _ _ (sum_ends _ _ ∙ sym c.sum_operands.ensures ∙ c.in_err-next.was))

pub returns : goal.returns
unfolding read_cross
returns c =
    walk_go walk_of _ _ (sum_ends _ _ ∙ sym c.sum_operands.ensures ∙ c.in_ok-next.was) λ operands v.
    number_last (CROSS operands.0 operands.1) _ c.after.ensures c.ingredient_number.ensures
