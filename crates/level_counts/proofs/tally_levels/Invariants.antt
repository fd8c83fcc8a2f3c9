-- `tally_levels` meets its contract: after each run the counters hold the counts of the keys so far.
-- Assumes nothing.
use Rattle.tally.specs.Tally.{Tallied}
use Rattle.level_counts.specs.Keys.{levels_key}
use Rattle.level_counts.proofs.tally_levels.Given as goal

abbrev pub invariant-loop-run : goal.invariant-loop-run
invariant-loop-run l = Tallied l.counters l.run (levels_key l.cells l.columns l.first l.weight l.second)
