-- `step_places::step_at` meets its contract: a number past the last has no step, and any other stands after those before it.
use mathlib.Core.Path.{◌≡◌, sym, ◌∙◌}
use native.Mathlib.Omega.{arith}
use Rattle.std.specs.Prelude.{None}
use Rattle.order.specs.Order.{written_step}
use Rattle.order.specs.Grammar.{read_order}
use Rattle.order.proofs.Answers.{taken, untaken}
use Rattle.order.proofs.StepLaw.{step_law}
use Rattle.places.specs.Places.{steps_of, first_step_place, steps_start, step_from, step_at, step_after}
use Rattle.places.proofs.Parts.{steps_times}
use Rattle.places.proofs.Lookups.{item_zero, item_past, item_found, item_refused}
use Rattle.step_places.proofs.step_at.Goals as goal

pub returns-in_err-z : goal.returns-in_err-z
unfolding step_at steps_start
returns-in_err-z c =
    untaken c.steps_start.result (sym c.ok.ensures.value ∙ c.in_err-z.was) λ refusal e.
    rw c.from_residual.ensures
    (item_refused steps_of first_step_place None step_from written_step (read_order c.args.list.now) c.args.k (sym c.steps_start.ensures ∙ e))

pub returns-then-k-eq0 : goal.returns-then-k-eq0
unfolding step_at
returns-then-k-eq0 c = rw c.if-k-eq0.true (item_zero steps_of first_step_place None step_from written_step (read_order c.args.list.now))

pub returns-then-z-k : goal.returns-then-z-k
unfolding step_at steps_start
returns-then-z-k c =
    let started = sym c.steps_start.ensures ∙ taken c.steps_start.result (sym c.ok.ensures.value ∙ c.in_ok-z.was) in
    item_past steps_of first_step_place None step_from written_step (read_order c.args.list.now) c.args.k started c.if-z-k.true

pub returns : goal.returns
unfolding step_at step_after steps_start
returns c =
    let started = sym c.steps_start.ensures ∙ taken c.steps_start.result (sym c.ok.ensures.value ∙ c.in_ok-z.was) in
    c.step_after.ensures
    ∙ item_found steps_of first_step_place None step_from written_step step_law c.args.list.now (read_order c.args.list.now) c.args.k started (steps_times c.args.list.now) (omega arith) (omega arith)
