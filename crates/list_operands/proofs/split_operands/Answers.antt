-- `list_operands::split_operands` meets its contract: the column is read, and then the ingredient.
use mathlib.Core.Path.{sym, ◌∙◌}
use Rattle.order.specs.Order.{SPLIT}
use Rattle.order.specs.Grammar.{read_split}
use Rattle.order.specs.Answers.{walk_of}
use Rattle.order.proofs.Answers.{passed_on, number_go, number_stops, number_last}
use Rattle.list_operands.proofs.split_operands.Goals as goal

pub returns-in_err-next : goal.returns-in_err-next
unfolding read_split
returns-in_err-next c = passed_on c.from_residual.ensures.1 (number_stops _ _ (sym c.number.ensures ∙ c.in_err-next.was))

pub returns : goal.returns
unfolding read_split
returns c =
    number_go walk_of _ _ (sym c.number.ensures ∙ c.in_ok-next.was)
    (number_last (SPLIT _) _ c.after.ensures c.ingredient_number.ensures)
