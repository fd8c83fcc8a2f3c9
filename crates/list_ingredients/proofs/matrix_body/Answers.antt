-- `list_ingredients::matrix_body` meets its contract: at each way out the readers that came before gave what the code found.
use mathlib.Core.Path.{sym, ◌∙◌}
use Rattle.order.specs.Grammar.{matrix_body}
use Rattle.order.specs.Answers.{spot_of}
use Rattle.order.proofs.Answers.{passed_on, walk_stop, number_go, number_stop}
use Rattle.order.proofs.Bodies.{matrix_found}
use Rattle.list_ingredients.proofs.matrix_body.Goals as goal

pub returns-in_err-p : goal.returns-in_err-p
unfolding matrix_body spot_of
returns-in_err-p c =
    passed_on c.from_residual.ensures.1 (number_stop (spot_of c.args.from.at) _ _ (sym c.number.ensures ∙ c.in_err-p.was))

pub returns-in_err-end : goal.returns-in_err-end
unfolding matrix_body spot_of
returns-in_err-end c =
    let f = spot_of c.args.from.at in
    passed_on c.from_residual-in_err-end.ensures.1
    (number_go f _ _ (sym c.number.ensures ∙ c.in_ok-p.was) (walk_stop f _ _ (sym c.skip.ensures ∙ c.in_err-end.was)))

pub returns : goal.returns
returns c =
    matrix_found c.args.list.now c.args.from.at c.args.rows c.args.columns (sym c.number.ensures ∙ c.in_ok-p.was)
    (sym c.skip.ensures ∙ c.in_ok-end.was)
