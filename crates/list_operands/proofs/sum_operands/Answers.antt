-- `list_operands::sum_operands` meets its contract: the matrices are read, and then the table or none.
use mathlib.Core.Path.{sym, ◌∙◌}
use Rattle.order.specs.Answers.{walk_of}
use Rattle.order.proofs.Answers.{passed_on, walk_go, walk_stops, number_last}
use Rattle.order.proofs.Stages.{sum_ends}
use Rattle.list_operands.proofs.sum_operands.Goals as goal

pub returns-in_err-next : goal.returns-in_err-next
returns-in_err-next c =
    passed_on c.from_residual.ensures.1 (walk_stops _ _ (sym c.matrices.ensures ∙ c.in_err-next.was) ∙ sum_ends _ _)

pub returns : goal.returns
returns c =
    walk_go walk_of _ _ (sym c.matrices.ensures ∙ c.in_ok-next.was)
    (λ ds v. number_last (λ k. (ds, k)) _ c.after.ensures c.none_or_ingredient.ensures)
    ∙ sum_ends _ _
