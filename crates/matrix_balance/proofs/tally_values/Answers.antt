-- `tally_values` meets its contract: after each row the counters hold the counts of the values so far.
-- Assumes nothing.
use mathlib.Core.Path.{refl}
use native.Mathlib.Nat.{le_trans}
use borrow.Author.Rules.{rules}
use Rattle.tally.proofs.Tallies.{tallied_none, tallied_more, counter_fits}
use Rattle.matrix_balance.proofs.Values.{value_read, counter_there, counter_within}
use Rattle.matrix_balance.proofs.tally_values.Goals as goal

pub loop-row-init : goal.loop-row-init
loop-row-init c = (search rules, refl, tallied_none _ c.requires.cleared)

pub bounds-counters-value : goal.bounds-counters-value
bounds-counters-value c =
    counter_within c.requires.matrix_stands c.requires.column_lt_columns c.loop-row-test.true _ c.loop-row.invariant.2.size

pub overflow_add-counters : goal.overflow_add-counters
overflow_add-counters c =
    let l = c.loop-row in
    counter_fits l.invariant.2 (le_trans l.invariant.0 c.requires.matrix_stands.rows_limits.1) _

pub bounds-counters-value-in-loop-row : goal.bounds-counters-value-in-loop-row
bounds-counters-value-in-loop-row c =
    counter_within c.requires.matrix_stands c.requires.column_lt_columns c.loop-row-test.true _ c.loop-row.invariant.2.size

pub loop-row-preserved : goal.loop-row-preserved
loop-row-preserved c =
    let l = c.loop-row in
    let taken = c.loop-row-test.true in (
      search rules,
      search rules,
      rw (value_read c.requires.matrix_stands c.requires.column_lt_columns taken)
          (tallied_more l.invariant.2 (counter_there c.requires.matrix_stands c.requires.column_lt_columns taken)),
    )
