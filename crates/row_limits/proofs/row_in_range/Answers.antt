-- `row_limits::row_in_range` meets its contract. The invariant: the numbers so far pass and those from column on pass exactly where all of them do.
use mathlib.Core.Path.{◌≡◌, ◌∙◌}
use Prim.Native.Nat.{◌+◌, ◌-◌}
use native.Mathlib.Omega.{arith}
use lib.ListN.{length}
use Rattle.order.proofs.Failing.{failing_all}
use Rattle.row_limits.specs.High.{is_below, high_in_row}
use Rattle.row_limits.proofs.row_in_range.Goals as goal

pub loop-column-init : goal.loop-column-init
unfolding high_in_row
loop-column-init c =
    let all : length c.args.limits.now - 0 ≡ length c.args.limits.now = omega arith in rw all

pub loop-column-preserved : goal.loop-column-preserved
loop-column-preserved c =
    let a = c.args in
    let at_loop = c.loop-column in
    let below = is_below a.list.now a.start a.limits.now in
    let left = length a.limits.now - at_loop.column in
    let less : length a.limits.now - (at_loop.column + 1) ≡ left - 1 = omega arith in
    rw less
    (failing_all below a.start at_loop.all left at_loop.column (omega arith)
    ∙ at_loop.invariant)
