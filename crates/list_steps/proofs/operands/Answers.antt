-- `list_steps::operands` meets its contract: the kind chooses the reader, as in the definition.
use Rattle.order.specs.Order.{TAKE, FIELD}
use Rattle.order.specs.Grammar.{read_naming}
use Rattle.order.proofs.Answers.{number_last}
use Rattle.list_steps.proofs.operands.Goals as goal

pub returns-in-1 : goal.returns-in-1
unfolding read_naming
returns-in-1 c = rw c.in-1.is (number_last TAKE _ c.after.ensures c.ingredient_number.ensures)

pub returns-in-2 : goal.returns-in-2
unfolding read_naming
returns-in-2 c = rw c.in-2.is (number_last FIELD _ c.after-in-2.ensures c.ingredient_number-in-2.ensures)
