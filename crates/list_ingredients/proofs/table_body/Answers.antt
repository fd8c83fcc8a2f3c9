-- `list_ingredients::table_body` meets its contract: at each way out the readers that came before gave what the code found.
use mathlib.Core.Path.{sym, ◌∙◌}
use Rattle.order.specs.Grammar.{table_body}
use Rattle.order.specs.Answers.{spot_of}
use Rattle.order.proofs.Answers.{passed_on, walk_go, walk_stop}
use Rattle.order.proofs.Bodies.{table_found}
use Rattle.list_ingredients.proofs.table_body.Goals as goal

pub returns-in_err-next : goal.returns-in_err-next
unfolding table_body spot_of
returns-in_err-next c =
    passed_on c.from_residual.ensures.1 (walk_stop (spot_of c.args.from.at) _ _ (sym c.series.ensures ∙ c.in_err-next.was))

pub returns-in_err-end : goal.returns-in_err-end
unfolding table_body spot_of
returns-in_err-end c =
    let f = spot_of c.args.from.at in
    passed_on c.from_residual-in_err-end.ensures.1
    (walk_go f _ _ (sym c.series.ensures ∙ c.in_ok-next.was) λ levels v.
    walk_stop f _ _ (sym c.skip.ensures ∙ c.in_err-end.was))

pub returns : goal.returns
returns c =
    table_found c.args.list.now c.args.from.at c.args.rows c.args.columns (sym c.series.ensures ∙ c.in_ok-next.was)
    (sym c.skip.ensures ∙ c.in_ok-end.was)
