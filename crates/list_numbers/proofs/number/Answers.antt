-- `list_numbers::number` meets its contract, by the law that joins the number, its test and what is accepted.
use Rattle.order.specs.Grammar.{between}
use Rattle.order.proofs.Answers.{accepted}
use Rattle.list_numbers.proofs.number.Goals as goal

pub returns : goal.returns
returns c =
    let a = c.args in
    accepted (between a.low a.high) a.list.now a.c.at c.peek.ensures c.within.ensures c.accept.ensures
