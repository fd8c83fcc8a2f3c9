-- `tally_differences` meets its contract: after each row the counters hold the counts of the differences so far.
-- Assumes nothing.
use native.Mathlib.Nat.{le_trans, le_of_lt}
use Rattle.tally.proofs.Tallies.{tallied_none, tallied_more, counter_fits}
use Rattle.matrix_check.proofs.Rows.{row_place, row_found, difference_counted}
use Rattle.matrix_check.proofs.differences.tally_differences.Goals as goal

pub loop-row-init : goal.loop-row-init
loop-row-init c = tallied_none _ c.requires.cleared

pub bounds-differences-x : goal.bounds-differences-x
bounds-differences-x c =
    let pre = c.requires in
    rw pre.differences_of.places
    (row_place pre.checkable_matrix c.loop-row-test.true pre.first_lt_columns.0 pre.first_lt_columns.1)

pub overflow_add-counters : goal.overflow_add-counters
overflow_add-counters c =
    counter_fits c.loop-row.invariant (le_trans (le_of_lt c.loop-row-test.true) c.requires.checkable_matrix.few) _

pub loop-row-preserved : goal.loop-row-preserved
loop-row-preserved c =
    let pre = c.requires in
    let found = row_found pre.checkable_matrix c.loop-row-test.true pre.first_lt_columns.0 pre.first_lt_columns.1 pre.differences_of in
    rw found (tallied_more c.loop-row.invariant (difference_counted pre.checkable_matrix _ _ _))
