-- `dependent_pair` meets its contract: the pairs of factors before the one in hand are independent.
-- Assumes nothing.
use mathlib.Core.Path.{sym, ◌∙◌, ap}
use native.Mathlib.Nat.{lt_trans}
use Rattle.finite.proofs.PairOrder.{searched_start, searched_next, searched_none, searched_at, searched_few, left_falls}
use Rattle.counting.specs.GeneratorVerdict.{generator_finding}
use Rattle.combining.proofs.Factors.{pair_blocks, pair_least, pair_nothing}
use Rattle.generator_check.proofs.dependent_pair.Goals as goal

pub loop-pair-init : goal.loop-pair-init
loop-pair-init c = rw c.start-pair.ensures (searched_start _ _)

pub least_dependence-requires : goal.least_dependence-requires
least_dependence-requires c =
    let l = c.loop-pair in
    let taken = c.loop-pair-test.true in
    rw (c.requires.row_value, c.factor_block-one.ensures, c.factor_block-other.ensures)
    (pair_blocks _ _ _ _ c.requires.checkable_generator _ _ (lt_trans l.invariant.ordered taken) taken)

pub returns-in-Some : goal.returns-in-Some
returns-in-Some c =
    let l = c.loop-pair in
    sym (ap generator_finding (searched_at _ _ l.pair _ l.invariant c.loop-pair-test.true
    (pair_least _ _ _ _ c.requires.checkable_generator _ _ _ (sym c.in-Some.is ∙ (rw (c.requires.row_value, c.factor_block-one.ensures, c.factor_block-other.ensures) at c.least_dependence.ensures)))))

pub next-pair-requires : goal.next-pair-requires
next-pair-requires c =
    let l = c.loop-pair in
    let taken = c.loop-pair-test.true in
    let few = c.requires.checkable_generator.few in
    (l.invariant.ordered, taken, searched_few _ _ l.pair l.invariant taken few)

pub loop-pair-smaller : goal.loop-pair-smaller
loop-pair-smaller c = rw c.next-pair.ensures (left_falls _ _ c.loop-pair.invariant.ordered c.loop-pair-test.true)

pub loop-pair-preserved : goal.loop-pair-preserved
loop-pair-preserved c =
    let l = c.loop-pair in
    rw c.next-pair.ensures (searched_next _ _ l.pair l.invariant c.loop-pair-test.true
    (pair_nothing _ _ _ _ c.requires.checkable_generator _ _ (sym c.in_default.is ∙ (rw (c.requires.row_value, c.factor_block-one.ensures, c.factor_block-other.ensures) at c.least_dependence.ensures))))

pub returns : goal.returns
returns c = sym (ap generator_finding (searched_none _ _ _ c.loop-pair.invariant c.loop-pair-test.false))
