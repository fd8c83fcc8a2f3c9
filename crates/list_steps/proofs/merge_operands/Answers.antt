-- `list_steps::merge_operands` meets its contract: p is read, which is at most 7, and then p + 1 columns.
use mathlib.Core.Path.{◌≡◌, sym, ◌∙◌}
use native.Mathlib.Omega.{arith}
use Rattle.order.specs.Order.{MERGE}
use Rattle.order.specs.Grammar.{read_merge}
use Rattle.order.specs.Answers.{walk_of}
use Rattle.order.proofs.StepLaw.{merge_prime_law}
use Rattle.order.proofs.Answers.{passed_on, number_value, number_go, number_stops, walk_last}
use Rattle.list_steps.proofs.merge_operands.Goals as goal

pub overflow_add-p : goal.overflow_add-p
overflow_add-p c =
    let p_read = number_value _ (sym c.merge_prime.ensures ∙ c.in_ok-p.was) in
    omega (arith, (merge_prime_law.sound _ _ _ _ p_read).0.0.1)

pub returns-in_err-p : goal.returns-in_err-p
unfolding read_merge
returns-in_err-p c = passed_on c.from_residual.ensures.1 (number_stops _ _ (sym c.merge_prime.ensures ∙ c.in_err-p.was))

pub returns : goal.returns
unfolding read_merge
returns c = number_go walk_of _ _ (sym c.merge_prime.ensures ∙ c.in_ok-p.was) (walk_last (MERGE _) _ c.series.ensures)
