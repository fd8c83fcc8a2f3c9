-- `list_series::series` meets its contract. The invariant: reading what is left from the cursor on gives the answer of the whole.
use Rattle.std.proofs.Common.{sym, ◌∙◌}
use Rattle.order.specs.Reader.{allowed}
use Rattle.order.specs.Grammar.{between}
use Rattle.order.proofs.Answers.{number_value, number_refused, passed_on, times_on, times_refused, times_done}
use Rattle.list_series.proofs.series.Goals as goal

pub returns-in_err-c : goal.returns-in_err-c
returns-in_err-c c =
    let e = number_refused _ (sym c.number.ensures ∙ c.in_err-c.was) in
    passed_on c.from_residual.ensures.1
    (sym (times_refused (allowed (between c.args.low c.args.high)) c.args.list.now c.loop.c.at c.args.n c.loop.counter c.loop-test.true e) ∙ c.loop.invariant)

pub loop-preserved : goal.loop-preserved
loop-preserved c =
    let e = number_value _ (sym c.number.ensures ∙ c.in_ok-c.was) in
    sym (times_on (allowed (between c.args.low c.args.high)) c.args.list.now c.loop.c.at c.args.n c.loop.counter c.loop-test.true e)
    ∙ c.loop.invariant

pub returns : goal.returns
returns c =
    sym (times_done (allowed (between c.args.low c.args.high)) c.args.list.now c.loop.c.at c.args.n c.loop.counter c.loop-test.false)
    ∙ c.loop.invariant
