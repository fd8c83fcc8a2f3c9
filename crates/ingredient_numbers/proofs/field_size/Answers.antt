-- `ingredient_numbers::field_size` meets its contract, by the law that joins the number, its test and what is accepted.
use Rattle.order.specs.Grammar.{generator_field}
use Rattle.order.proofs.Answers.{accepted}
use Rattle.ingredient_numbers.proofs.field_size.Goals as goal

pub returns : goal.returns
returns c =
    let a = c.args in
    accepted (generator_field a.t) a.list.now a.c.at c.peek.ensures c.is_field_size.ensures c.accept.ensures
