-- `combination_code` meets its contract: Horner's rule over the rows so far.
-- Assumes nothing.
use mathlib.Core.Path.{refl}
use native.Mathlib.Nat.{le_antisymm}
use native.Mathlib.Numerals.{add-one}
use Rattle.finite.specs.Digits.{horner}
use borrow.Author.Rules.{rules}
use Rattle.combining.specs.Combining.{combination_code}
use Rattle.combining.proofs.Combinings.{block_elements}
use Rattle.distinct_combinations.proofs.combination_code.Goals as goal

pub loop-i-init : goal.loop-i-init
unfolding horner
loop-i-init c = (search rules, refl)

pub row_combination-element-requires-clause-elements_at : goal.row_combination-element-requires-clause-elements_at
row_combination-element-requires-clause-elements_at c =
    block_elements c.requires c.loop-i.i _ _ c.loop-i-test.true c.requires.one_in

pub loop-i-preserved : goal.loop-i-preserved
unfolding horner
loop-i-preserved c =
    let l = c.loop-i in (
      search rules,
      rw (add-one l.i, ← l.invariant.1, c.row_combination-element.ensures),
    )

pub returns : goal.returns
unfolding combination_code
returns c = λ small. rw (le_antisymm c.loop-i-test.false (c.loop-i.auto.i-end)) c.loop-i.invariant.1
