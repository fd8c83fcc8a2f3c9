-- `list_steps::counted_steps` meets its contract: the number is read, and then that many steps.
use mathlib.Core.Path.{sym, ◌∙◌}
use Rattle.order.specs.Answers.{walk_of}
use Rattle.order.proofs.Answers.{passed_on, number_go, number_stops}
use Rattle.list_steps.proofs.counted_steps.Goals as goal

pub returns-in_err-z : goal.returns-in_err-z
returns-in_err-z c = passed_on c.from_residual.ensures.1 (number_stops _ _ (sym c.number.ensures ∙ c.in_err-z.was))

pub returns : goal.returns
returns c = number_go walk_of _ _ (sym c.number.ensures ∙ c.in_ok-z.was) c.steps.ensures
