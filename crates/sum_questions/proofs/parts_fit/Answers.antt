-- `sum_questions::parts_fit` meets its contract: the three parts of question 6 in turn.
use mathlib.Core.Path.{sym, ◌∙◌}
use Rattle.sum_bytes.proofs.SumMeets.{matrices_misfit, levels_misfit, adjoined_decides}
use Rattle.sum_questions.proofs.parts_fit.Goals as goal

pub returns-then-not-serve-clause-value : goal.returns-then-not-serve-clause-value
returns-then-not-serve-clause-value c = matrices_misfit _ _ _ _ (sym (c.if-not-serve.true) ∙ c.serve.ensures.value)

pub returns-then-not-all_served-clause-value : goal.returns-then-not-all_served-clause-value
returns-then-not-all_served-clause-value c =
    let served = c.serve.ensures.serves c.if-not-serve.false in
    levels_misfit _ _ _ _ served (sym (c.if-not-all_served.true) ∙ c.all_served.ensures)

pub returns-clause-value : goal.returns-clause-value
returns-clause-value c =
    let served = c.serve.ensures.serves c.if-not-serve.false in
    adjoined_decides _ _ _ _ served
    (sym (c.if-not-serve.false) ∙ c.serve.ensures.value)
    (sym (c.if-not-all_served.false) ∙ c.all_served.ensures)
    c.adjoins.ensures
