-- `list_steps::step` meets its contract: the kind is read, and then the operands of that kind.
use mathlib.Core.Path.{◌≡◌, sym, ◌∙◌}
use Prim.Native.Nat.{◌+◌}
use Rattle.order.specs.Grammar.{read_step}
use Rattle.order.specs.Answers.{stage_of}
use Rattle.order.proofs.Answers.{passed_on, number_go, number_stop, stage_stops}
use Rattle.order.proofs.Stages.{stage_found}
use Rattle.list_steps.proofs.step.Goals as goal

pub returns-in_err-kind : goal.returns-in_err-kind
unfolding read_step stage_of
returns-in_err-kind c =
    passed_on c.from_residual.ensures.1 (number_stop (stage_of (c.args.c.at + 1)) _ _ (sym c.number.ensures ∙ c.in_err-kind.was))

pub returns-in_err-end : goal.returns-in_err-end
unfolding read_step
returns-in_err-end c =
    passed_on c.from_residual-in_err-end.ensures.1
    (number_go (stage_of (c.args.c.at + 1)) _ _ (sym c.number.ensures ∙ c.in_ok-kind.was)
    (stage_stops _ _ (sym c.operands.ensures ∙ c.in_err-end.was)))

pub returns : goal.returns
returns c =
    stage_found c.args.list.now c.args.c.at (sym c.number.ensures ∙ c.in_ok-kind.was) (sym c.operands.ensures ∙ c.in_ok-end.was)
