-- `uneven_pair` meets its contract: the pairs before the one in hand are even, and the counters are zero between two pairs.
-- Assumes nothing.
use mathlib.Core.Path.{refl, sym, ◌∙◌, ap}
use mathlib.Core.Option.{map}
use native.Mathlib.Nat.{lt_trans}
use native.Mathlib.Omega.{arith}
use lib.IntN.{pos}
use Rattle.std.specs.Prelude.{Ok}
use Rattle.finite.proofs.Fits.{product_fits}
use Rattle.finite.proofs.PairOrder.{searched_start, searched_next, searched_none, searched_at, searched_few, searched_all, left_falls}
use Rattle.counting.specs.Table.{table_of}
use Rattle.counting.specs.Verdict.{pairs_fault, verdict_of}
use Rattle.tally.proofs.Tallies.{nowhere_none, some_found, none_left}
use Rattle.table_check.proofs.TableKeys.{pair_keyed, pair_deviation_lem}
use Rattle.table_check.proofs.uneven_pair.Goals as goal

pub loop-pair-init : goal.loop-pair-init
loop-pair-init c = (refl, c.requires.cleared, rw c.start-pair.ensures (searched_start _ _))

pub overflow_mul-s : goal.overflow_mul-s
overflow_mul-s c =
    let l = c.loop-pair in
    product_fits (c.requires.checkable_table.levels_to _ (lt_trans l.invariant.2.ordered c.loop-pair-test.true)) (c.type_inv.levels l.pair.second) tt

pub next-pair-requires : goal.next-pair-requires
next-pair-requires c =
    let l = c.loop-pair in
    let taken = c.loop-pair-test.true in
    let narrow = c.requires.checkable_table.narrow in
    (l.invariant.2.ordered, taken, searched_few _ _ l.pair l.invariant.2 taken narrow)

pub loop-pair-smaller : goal.loop-pair-smaller
loop-pair-smaller c = rw c.next-pair.ensures (left_falls _ _ c.loop-pair.invariant.2.ordered c.loop-pair-test.true)

pub overflow_sub-result : goal.overflow_sub-result
overflow_sub-result c = omega (arith, searched_all _ _ _ c.loop-pair.invariant.2 c.loop-pair-test.false)

pub levels_deviation-requires-clause-keyed : goal.levels_deviation-requires-clause-keyed
levels_deviation-requires-clause-keyed c =
    let l = c.loop-pair in
    let taken = c.loop-pair-test.true in pair_keyed _ _ _ c.requires.checkable_table _ _ (lt_trans l.invariant.2.ordered taken) taken

pub returns-then-is_some : goal.returns-then-is_some
unfolding pairs_fault table_of
returns-then-is_some c =
    let l = c.loop-pair in
    let taken = c.loop-pair-test.true in
    let found = some_found _ c.levels_deviation.ensures.value (sym c.is_some.ensures ∙ c.if-is_some.true) in
    c.farthest_pair.ensures
    ∙ sym (ap (verdict_of (table_of c.args.cells.now c.args.levels.now c.args.runs)) (searched_at _ _ l.pair _ l.invariant.2 taken
    (ap (map _) (sym (pair_deviation_lem _ _ _ c.requires.checkable_table _ _ taken) ∙ found.1))))

pub loop-pair-preserved : goal.loop-pair-preserved
loop-pair-preserved c =
    let l = c.loop-pair in
    let taken = c.loop-pair-test.true in
    let called = c.levels_deviation in
    let nothing = none_left called.result (sym c.is_some.ensures ∙ c.if-is_some.false) in (
      called.auto.counters ∙ l.invariant.0,
      called.ensures.cleared_2 nothing,
      rw c.next-pair.ensures (searched_next _ _ l.pair l.invariant.2 taken
          (ap (map _) (sym (pair_deviation_lem _ _ _ c.requires.checkable_table _ _ taken) ∙ nowhere_none _ (sym nothing ∙ called.ensures.value)))),
    )

pub returns : goal.returns
unfolding pairs_fault table_of
returns c =
    let l = c.loop-pair in
    let left = c.loop-pair-test.false in
    ap (λ k. record { finding = Ok tt; gap = pos 0; pairs = k }) (omega (arith, searched_all _ _ l.pair l.invariant.2 left))
    ∙ sym (ap (verdict_of (table_of c.args.cells.now c.args.levels.now c.args.runs)) (searched_none _ _ l.pair l.invariant.2 left))
