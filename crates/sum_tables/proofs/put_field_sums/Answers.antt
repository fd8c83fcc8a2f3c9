-- `put_field_sums` meets its contract. The invariant: the sums before the one in hand are put.
-- Assumes nothing.
use native.Mathlib.Omega.{arith}
use Rattle.sum_tables.proofs.Tables.{over_to, squares_to, putting_none, putting_more}
use Rattle.sum_tables.proofs.put_field_sums.Goals as goal

pub loop-q-init : goal.loop-q-init
loop-q-init c = putting_none _ c.requires.sums_len

pub bounds-sums-start : goal.bounds-sums-start
bounds-sums-start c =
    let over = c.requires.t in
    rw c.loop-q.invariant.places (omega (arith, c.loop-q-test.true, over_to _ over, squares_to _ over))

pub loop-q-preserved : goal.loop-q-preserved
loop-q-preserved c = putting_more c.requires.t c.loop-q.invariant c.loop-q-test.true c.level_sum.ensures
