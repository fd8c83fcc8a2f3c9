-- `step_places::step_count` meets its contract, from the start of the steps.
use mathlib.Core.Path.{sym, ◌∙◌}
use Rattle.order.specs.Grammar.{read_order}
use Rattle.places.specs.Places.{steps_of, first_step_place, steps_start}
use Rattle.places.proofs.Lookups.{count_is, count_none}
use Rattle.step_places.specs.StepCount.{step_count}
use Rattle.step_places.proofs.step_count.Goals as goal

pub returns-in-Ok : goal.returns-in-Ok
unfolding steps_start step_count
returns-in-Ok c = count_is steps_of first_step_place (read_order c.args.list.now) (sym c.steps_start.ensures ∙ c.in-Ok.is)

pub returns-in-Err : goal.returns-in-Err
unfolding steps_start step_count
returns-in-Err c = count_none steps_of first_step_place (read_order c.args.list.now) (sym c.steps_start.ensures ∙ c.in-Err.is)
