-- `row_limits::first_high` meets its contract. The invariant: the rows that are left stand within the list, and the search in them gives the
-- answer of the whole.
use mathlib.Core.Path.{sym, ◌∙◌}
use native.Mathlib.Omega.{arith}
use lib.ListN.{length}
use Rattle.row_limits.proofs.Rows.{rows_on, rows_stop, rows_done, row_first}
use Rattle.row_limits.proofs.first_high.Goals as goal

pub row_in_range-requires : goal.row_in_range-requires
row_in_range-requires c =
    let one = row_first c.args.rows c.loop.counter (length c.args.limits.now) c.loop-test.true in omega (arith, c.loop.invariant.0)

pub first_high_in_row-requires : goal.first_high_in_row-requires
first_high_in_row-requires c =
    let one = row_first c.args.rows c.loop.counter (length c.args.limits.now) c.loop-test.true in omega (arith, c.loop.invariant.0)

pub returns-then-not-row_in_range : goal.returns-then-not-row_in_range
returns-then-not-row_in_range c =
    let high = sym c.row_in_range.ensures ∙ c.if-not-row_in_range.true in
    c.first_high_in_row.ensures ∙ sym (rows_stop _ _ _ c.args.rows c.loop.counter c.loop-test.true high) ∙ c.loop.invariant.1

pub loop-preserved : goal.loop-preserved
loop-preserved c =
    let one = row_first c.args.rows c.loop.counter (length c.args.limits.now) c.loop-test.true in
    let below = sym c.row_in_range.ensures ∙ c.if-not-row_in_range.false in
    (omega (arith, c.loop.invariant.0), sym (rows_on _ _ _ c.args.rows c.loop.counter c.loop-test.true below) ∙ c.loop.invariant.1)

pub returns : goal.returns
returns c = sym (rows_done _ _ _ c.args.rows c.loop.counter c.loop-test.false) ∙ c.loop.invariant.1
