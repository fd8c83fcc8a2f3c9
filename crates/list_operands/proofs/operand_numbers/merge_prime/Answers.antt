-- `list_operands::operand_numbers::merge_prime` meets its contract, by the law that joins the number, its test and what is accepted.
use Rattle.order.specs.Grammar.{merge_prime}
use Rattle.order.proofs.Answers.{accepted}
use Rattle.list_operands.proofs.operand_numbers.merge_prime.Goals as goal

pub returns : goal.returns
returns c =
    let a = c.args in
    accepted merge_prime a.list.now a.c.at c.peek.ensures c.is_merge_prime.ensures c.accept.ensures
