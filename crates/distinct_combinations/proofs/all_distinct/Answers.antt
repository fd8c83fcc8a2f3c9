-- `all_distinct` meets its contract: zero and the codes of the factors so far are marked, and they are different.
-- Assumes nothing.
use mathlib.Core.Path.{refl, ◌∙◌}
use native.Mathlib.Nat.{le_antisymm}
use native.Mathlib.Numerals.{add-one}
use native.Mathlib.Omega.{arith}
use Rattle.finite.specs.Sum.{sum}
use borrow.Author.Rules.{rules}
use Rattle.combining.specs.Combining.{factor_block}
use Rattle.combining.specs.Marks.{Marked}
use Rattle.combining.proofs.Factors.{one_block}
use Rattle.combining.proofs.Distinct.{distinct_passes}
use Rattle.combining.proofs.Marks.{seen_none, seen_more}
use Rattle.distinct_combinations.proofs.all_distinct.Goals as goal

pub loop-width-init : goal.loop-width-init
unfolding sum Marked
loop-width-init c = (search rules, refl, search rules, seen_none refl)

pub codes_are_new-requires-clause-blocks_in : goal.codes_are_new-requires-clause-blocks_in
unfolding factor_block
codes_are_new-requires-clause-blocks_in c =
    let l = c.loop-width in rw (c.requires.row_value, l.invariant.1) (one_block _ _ _ _ c.requires.checkable_generator l.width-index c.loop-width-test.true)

pub loop-width-preserved : goal.loop-width-preserved
unfolding sum factor_block
loop-width-preserved c =
    let l = c.loop-width in
    let called = c.codes_are_new in (
      omega (arith, c.type_inv.widths l.width-index),
      rw (add-one l.width-index, l.invariant.1),
      called.auto.seen ∙ l.invariant.2,
      seen_more l.invariant.3 (rw l.invariant.1 at (called.ensures (c.if-not-codes_are_new.false))),
    )

pub returns : goal.returns
returns c = λ e.
    let l = c.loop-width in
    distinct_passes _ _ _ _ c.requires.checkable_generator (rw (← c.requires.row_value, le_antisymm c.loop-width-test.false l.auto.width-index-end) l.invariant.3.distinct)
