-- `columns_before` meets its contract: the columns so far are the sum over the factors so far.
-- Assumes nothing.
use mathlib.Core.Path.{refl}
use Prim.Native.Nat.{◌<◌}
use native.Mathlib.Numerals.{add-one}
use native.Mathlib.Omega.{arith}
use lib.ListN.{length-take}
use lib.Seq.{get_or-take}
use Rattle.finite.specs.Sum.{sum}
use borrow.Author.Rules.{rules}
use Rattle.generator_check.proofs.columns_before.Goals as goal

pub loop-width-init : goal.loop-width-init
unfolding sum
loop-width-init c = (search rules, refl)

pub loop-width-preserved : goal.loop-width-preserved
unfolding sum
loop-width-preserved c =
    let l = c.loop-width in
    let n = c.args.factors in
    let widths = c.args.widths.now in
    let inside : l.width-index < n = omega (arith, length-take n widths, c.loop-width-test.true) in
    rw (get_or-take n widths l.width-index 0 inside)
    (omega (arith, c.type_inv.widths l.width-index), rw (add-one l.width-index, l.invariant.1))
