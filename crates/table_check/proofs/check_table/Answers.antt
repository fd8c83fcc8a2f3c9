-- `check_table` meets its contract: columns first, and pairs where no column fails.
-- Assumes nothing.
use mathlib.Core.Path.{refl, sym, ◌∙◌}
use Rattle.counting.proofs.Deviations.{fails_some, passes_none}
use Rattle.counting.proofs.TableVerdicts.{verdict_column, verdict_pairs}
use Rattle.tally.proofs.Tallies.{cleared_made}
use Rattle.table_check.proofs.check_table.Goals as goal

pub returns-in-Err : goal.returns-in-Err
returns-in-Err c =
    verdict_column _ _ (fails_some _ _ (sym c.in-Err.is ∙ c.uneven_column.ensures.value))

pub returns-in-Ok : goal.returns-in-Ok
returns-in-Ok c =
    c.uneven_pair.ensures
    ∙ verdict_pairs _ (passes_none _ (sym c.in-Ok.is ∙ c.uneven_column.ensures.value))

pub uneven_column-requires-clause-cleared : goal.uneven_column-requires-clause-cleared
uneven_column-requires-clause-cleared c = cleared_made 4096 refl
