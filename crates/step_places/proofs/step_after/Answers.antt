-- `step_places::step_after` meets its contract: k steps are passed over, and the next one is read.
use mathlib.Core.Path.{◌≡◌, sym, ap, ◌∙◌}
use Rattle.std.specs.Prelude.{Some, None}
use Rattle.order.specs.Grammar.{read_step}
use Rattle.order.proofs.Answers.{taken, untaken, stage_value, stage_refused}
use Rattle.places.specs.Places.{step_from, step_after}
use Rattle.places.proofs.Lookups.{nth_found, nth_refused, nth_stopped}
use Rattle.step_places.proofs.step_after.Goals as goal

pub returns-in_err-next : goal.returns-in_err-next
unfolding step_after
returns-in_err-next c =
    untaken c.steps.result (sym c.ok.ensures.value ∙ c.in_err-next.was) λ refusal e.
    rw c.from_residual.ensures
    (nth_stopped None step_from read_step c.args.k c.args.list.now c.args.start.at (sym c.steps.ensures ∙ e))

pub returns-in_err-found : goal.returns-in_err-found
unfolding step_after
returns-in_err-found c =
    let passed = sym c.steps.ensures ∙ taken c.steps.result (sym c.ok.ensures.value ∙ c.in_ok-next.was) in
    untaken c.step.result (sym c.ok-2.ensures.value ∙ c.in_err-found.was) λ refusal e.
    rw c.from_residual-in_err-found.ensures
    (nth_refused None step_from read_step c.args.k c.args.list.now c.args.start.at passed (stage_refused _ _ (sym c.step.ensures ∙ e)))

pub returns : goal.returns
unfolding step_after
returns c =
    let passed = sym c.steps.ensures ∙ taken c.steps.result (sym c.ok.ensures.value ∙ c.in_ok-next.was) in
    let read = sym c.step.ensures ∙ taken c.step.result (sym c.ok-2.ensures.value ∙ c.in_ok-found.was) in
    stage_value _ _ read λ s kind from v.
    rw (kind, from)
    (nth_found None step_from read_step c.args.k c.args.list.now c.args.start.at passed v)
