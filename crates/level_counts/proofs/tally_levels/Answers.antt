-- `tally_levels` meets its contract: after each run the counters hold the counts of the keys so far.
-- Assumes nothing.
use native.Mathlib.Nat.{le_trans, le_of_lt}
use native.Mathlib.Omega.{arith}
use Rattle.tally.proofs.Tallies.{tallied_none, tallied_more, counter_fits}
use Rattle.level_counts.specs.Keys.{levels_key}
use Rattle.level_counts.proofs.Keys.{key_below}
use Rattle.level_counts.proofs.tally_levels.Goals as goal

pub loop-run-init : goal.loop-run-init
loop-run-init c = tallied_none _ c.requires.cleared

pub overflow_mul-key : goal.overflow_mul-key
overflow_mul-key c = omega (arith, key_below _ c.requires.keyed c.loop-run-test.true)

pub overflow_add-key-in-loop-run-2 : goal.overflow_add-key-in-loop-run-2
overflow_add-key-in-loop-run-2 c = omega (arith, key_below _ c.requires.keyed c.loop-run-test.true)

pub offset_bounds-counters-key : goal.offset_bounds-counters-key
offset_bounds-counters-key c = omega (arith, key_below _ c.requires.keyed c.loop-run-test.true)

pub bounds-counters-key : goal.bounds-counters-key
bounds-counters-key c = rw c.loop-run.invariant.size (key_below _ c.requires.keyed c.loop-run-test.true)

pub bounds-counters-key-in-loop-run : goal.bounds-counters-key-in-loop-run
bounds-counters-key-in-loop-run c = rw c.loop-run.invariant.size (key_below _ c.requires.keyed c.loop-run-test.true)

pub overflow_add-counters : goal.overflow_add-counters
overflow_add-counters c =
    counter_fits c.loop-run.invariant (le_trans (le_of_lt c.loop-run-test.true) c.requires.keyed.few) _

pub loop-run-preserved : goal.loop-run-preserved
unfolding levels_key
loop-run-preserved c = tallied_more c.loop-run.invariant (c.requires.keyed.keys_below c.loop-run.run c.loop-run-test.true)
