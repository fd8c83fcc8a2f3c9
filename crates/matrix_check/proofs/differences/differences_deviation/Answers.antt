-- `differences_deviation` meets its contract: the counters hold the differences' counts, and past the differences they are zero.
-- Assumes nothing.
use mathlib.Core.Path.{◌∙◌, ap}
use native.Mathlib.Nat.{le_trans}
use lib.Dec.{lit≤}
use Rattle.galois.proofs.Levels.{level_difference_below}
use Rattle.counting.specs.Matrix.{matrix_of, differences, row_difference}
use Rattle.counting.specs.Verdict.{difference_deviation}
use Rattle.tally.specs.Tally.{as_deviation, keys_deviation}
use Rattle.tally.proofs.Tallies.{deviation_tallied, past_keys}
use Rattle.matrix_check.proofs.differences.differences_deviation.Goals as goal

pub returns-clause-value : goal.returns-clause-value
unfolding difference_deviation differences keys_deviation matrix_of row_difference
returns-clause-value c =
    let tallied = c.tally_differences.ensures in
    let found = c.first_deviation.ensures in found.value ∙ ap as_deviation (deviation_tallied _ tallied)

pub returns-clause-cleared_2 : goal.returns-clause-cleared_2
unfolding difference_deviation differences keys_deviation matrix_of row_difference
returns-clause-cleared_2 c =
    let tallied = c.tally_differences.ensures in
    let found = c.first_deviation.ensures in λ e. found.cleared e (past_keys _ tallied (λ r h. level_difference_below _ _ _ (le_trans (lit≤ tt) c.requires.checkable_matrix.modulus_from)))
