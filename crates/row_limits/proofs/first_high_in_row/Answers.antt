-- `row_limits::first_high_in_row` meets its contract. The invariant: the search from column on gives the answer of the whole row.
use mathlib.Core.Path.{◌≡◌, sym, ◌∙◌}
use Prim.Native.Nat.{◌+◌, ◌-◌}
use native.Mathlib.Omega.{arith}
use borrow.Author.Tests.{lt-ltb}
use lib.ListN.{length}
use Rattle.order.proofs.Failing.{failing_on}
use Rattle.row_limits.specs.High.{is_below, high_in_row}
use Rattle.row_limits.proofs.first_high_in_row.Goals as goal

pub loop-column-init : goal.loop-column-init
unfolding high_in_row
loop-column-init c =
    let all : length c.args.limits.now - 0 ≡ length c.args.limits.now = omega arith in rw all

pub loop-column-preserved : goal.loop-column-preserved
loop-column-preserved c =
    let a = c.args in
    let at_loop = c.loop-column in
    let below = is_below a.list.now a.start a.limits.now in
    let left = length a.limits.now - at_loop.column in
    let less : length a.limits.now - (at_loop.column + 1) ≡ left - 1 = omega arith in
    rw less
    (sym (failing_on below a.start left at_loop.column (omega arith) (lt-ltb _ _ c.if-limits-column.false))
    ∙ at_loop.invariant)
