-- `list_operands::operand_numbers::none_or_ingredient` meets its contract, by the law that joins the number, its test and what is accepted.
use Rattle.order.specs.Grammar.{none_or_ingredient}
use Rattle.order.proofs.Answers.{accepted}
use Rattle.list_operands.proofs.operand_numbers.none_or_ingredient.Goals as goal

pub returns : goal.returns
returns c =
    let a = c.args in
    accepted none_or_ingredient a.list.now a.c.at c.peek.ensures c.is_none_or_ingredient.ensures c.accept.ensures
