-- `printing::plan_and_put` meets its contract: what `plan` promises can be printed, and what is then put is what the outcome prints.
use Rattle.printing.proofs.Printing.{promise_printable, promise_put}
use Rattle.printing.proofs.plan_and_put.Goals as goal

pub put_answer-end-requires-clause-printable : goal.put_answer-end-requires-clause-printable
put_answer-end-requires-clause-printable c = promise_printable c.plan-answer.ensures

pub returns-clause-promise : goal.returns-clause-promise
returns-clause-promise c =
    let promise = c.plan-answer.ensures in promise

pub returns-clause-put : goal.returns-clause-put
returns-clause-put c =
    let promise = c.plan-answer.ensures in promise_put promise c.put_answer-end.ensures
