-- `spare::spare_of` meets its contract. The loop's invariant: what is taken away so far is 1 and the level counts passed.
use mathlib.Core.Path.{◌≡◌, sym, ◌∙◌, ap, ap₂}
use Prim.Native.Nat.{◌+◌, ◌<◌}
use native.Mathlib.Omega.{arith}
use borrow.Author.Rules.{sfits_of}
use lib.IntN.{pos, ◌-ℤ◌}
use mir.Facts.{to_z-of_z}
use mir.Syntax.{w64}
use lib.ListN.{length, get_or, take}
use lib.Seq.{length-take-le, get_or-take, take_all}
use Rattle.order.specs.Order.{total}
use Rattle.spare.proofs.Totals.{total_next, spare_total}
use Rattle.spare.proofs.spare_of.Goals as goal

pub loop-count-preserved : goal.loop-count-preserved
loop-count-preserved c =
    let counts = take c.args.columns c.args.levels.now in
    let k = c.loop-count.count-index in
    let among : k < c.args.columns = omega (arith, length-take-le _ _ c.requires.2, c.loop-count-test.true) in
    let byte : get_or counts k 0 < 256 = rw (get_or-take c.args.columns c.args.levels.now k 0 among) (omega (arith, c.type_inv.levels k)) in
    (omega (arith, total_next counts k c.loop-count-test.true), omega arith)

pub returns : goal.returns
returns c =
    let counts = take c.args.columns c.args.levels.now in
    let many : length counts ≡ c.args.columns = length-take-le _ _ c.requires.2 in
    to_z-of_z {w = w64} (sfits_of c.difference.type_inv)
    ∙ c.difference.ensures
    ∙ ap₂ (λ m n. pos (c.args.runs + m) -ℤ pos n) (sym many)
    (c.loop-count.invariant.0 ∙ ap (λ xs. 1 + total xs) (take_all _ counts c.loop-count-test.false))
    ∙ sym (spare_total _ _)
