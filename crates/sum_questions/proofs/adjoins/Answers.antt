-- `sum_questions::adjoins` meets its contract: a table that is missing adjoins, and any other by its runs.
use mathlib.Core.Path.{sym, ◌∙◌, ap}
use lib.Dec.{eqb}
use Rattle.counting.specs.Table.{Table}
use Rattle.sum_bytes.proofs.SumMeets.{adjoins_missing, adjoins_table}
use Rattle.sum_questions.proofs.adjoins.Goals as goal

pub returns-then-is_missing : goal.returns-then-is_missing
returns-then-is_missing c = adjoins_missing _ _ _ (sym c.is_missing.ensures ∙ c.if-is_missing.true)

pub returns : goal.returns
returns c =
    let rows = c.args.rows in
    ap (λ n. eqb n rows) c.run_count.ensures
    ∙ ap (λ (K : Table). eqb K.runs rows) (adjoins_table _ _ rows (sym c.is_missing.ensures ∙ c.if-is_missing.false))
