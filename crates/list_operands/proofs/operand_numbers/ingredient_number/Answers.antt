-- `list_operands::operand_numbers::ingredient_number` meets its contract, by the law that joins the number, its test and what is accepted.
use Rattle.order.specs.Grammar.{ingredient_number}
use Rattle.order.proofs.Answers.{accepted}
use Rattle.list_operands.proofs.operand_numbers.ingredient_number.Goals as goal

pub returns : goal.returns
returns c =
    let a = c.args in
    accepted ingredient_number a.list.now a.c.at c.peek.ensures c.is_ingredient_number.ensures c.accept.ensures
