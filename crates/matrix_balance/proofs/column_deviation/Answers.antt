-- `column_deviation` meets its contract: the counters hold the counts of the column's values, and past p they are zero.
-- Assumes nothing.
use mathlib.Core.Path.{◌∙◌, ap}
use Rattle.tally.specs.Tally.{as_deviation}
use Rattle.matrix_balance.proofs.Values.{column_counted, column_past}
use Rattle.matrix_balance.proofs.column_deviation.Goals as goal

pub returns-clause-value : goal.returns-clause-value
returns-clause-value c =
    let tallied = c.tally_values.ensures in
    let found = c.first_deviation.ensures in found.value ∙ ap as_deviation (column_counted c.requires.matrix_stands c.requires.column_lt_columns tallied)

pub returns-clause-cleared_2 : goal.returns-clause-cleared_2
returns-clause-cleared_2 c =
    let tallied = c.tally_values.ensures in
    let found = c.first_deviation.ensures in λ e. found.cleared e (column_past c.requires.matrix_stands c.requires.column_lt_columns tallied)
