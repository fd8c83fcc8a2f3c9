-- `levels_deviation` meets its contract: the counters hold the keys' counts, and past the keys they are zero.
-- Assumes nothing.
use mathlib.Core.Path.{◌∙◌, ap}
use Rattle.tally.specs.Tally.{as_deviation}
use Rattle.tally.proofs.Tallies.{deviation_tallied, past_keys}
use Rattle.level_counts.proofs.levels_deviation.Goals as goal

pub returns-clause-value : goal.returns-clause-value
returns-clause-value c =
    let tallied = c.tally_levels.ensures in
    let found = c.first_deviation.ensures in found.value ∙ ap as_deviation (deviation_tallied _ tallied)

pub returns-clause-cleared_2 : goal.returns-clause-cleared_2
returns-clause-cleared_2 c =
    let tallied = c.tally_levels.ensures in
    let found = c.first_deviation.ensures in λ e. found.cleared e (past_keys _ tallied c.requires.keyed.keys_below)
