-- `ingredient_numbers::factor_width` meets its contract, by the law that joins the number, its test and what is accepted.
use Rattle.order.specs.Grammar.{factor_width}
use Rattle.order.proofs.Answers.{accepted}
use Rattle.ingredient_numbers.proofs.factor_width.Goals as goal

pub returns : goal.returns
returns c =
    let a = c.args in
    accepted (factor_width a.s) a.list.now a.c.at c.peek.ensures c.is_width.ensures c.accept.ensures
