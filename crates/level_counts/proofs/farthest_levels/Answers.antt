-- `farthest_levels` meets its contract: the counters that it made hold the keys' counts.
-- Assumes nothing.
use mathlib.Core.Path.{refl, ◌∙◌}
use Rattle.tally.proofs.Tallies.{cleared_made}
use Rattle.level_counts.proofs.Keys.{farthest_tallied}
use Rattle.level_counts.proofs.farthest_levels.Goals as goal

pub tally_levels-requires-clause-cleared : goal.tally_levels-requires-clause-cleared
tally_levels-requires-clause-cleared c = cleared_made 4096 refl

pub returns : goal.returns
returns c = c.farthest_off.ensures ∙ farthest_tallied _ c.tally_levels.ensures
