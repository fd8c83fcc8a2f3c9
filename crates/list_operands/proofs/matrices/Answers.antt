-- `list_operands::matrices` meets its contract: the number is read, and then that many ingredient numbers.
use mathlib.Core.Path.{sym, ◌∙◌}
use Rattle.order.specs.Answers.{walk_of}
use Rattle.order.proofs.Answers.{passed_on, number_go, number_stops}
use Rattle.list_operands.proofs.matrices.Goals as goal

pub returns-in_err-count : goal.returns-in_err-count
returns-in_err-count c = passed_on c.from_residual.ensures.1 (number_stops _ _ (sym c.number.ensures ∙ c.in_err-count.was))

pub returns : goal.returns
returns c = number_go walk_of _ _ (sym c.number.ensures ∙ c.in_ok-count.was) c.ingredient_numbers.ensures
