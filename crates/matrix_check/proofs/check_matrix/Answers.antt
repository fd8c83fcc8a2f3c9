-- `check_matrix` meets its contract: the pairs before the one in hand have even differences, and the counters are zero between two pairs.
-- Assumes nothing.
use mathlib.Core.Path.{refl, sym, ◌∙◌, ap}
use Rattle.finite.proofs.PairOrder.{searched_start, searched_next, searched_none, searched_at, searched_few, left_falls}
use Rattle.counting.specs.Matrix.{matrix_of}
use Rattle.counting.specs.Verdict.{matrix_finding, matrix_verdict}
use Rattle.tally.proofs.Tallies.{cleared_made}
use Rattle.matrix_check.proofs.Found.{difference_at, difference_nowhere}
use Rattle.matrix_check.proofs.check_matrix.Goals as goal

pub loop-pair-init : goal.loop-pair-init
loop-pair-init c = (c.difference_table-differences.ensures, cleared_made 4096 refl, rw c.start-pair.ensures (searched_start _ _))

pub returns-in-Some : goal.returns-in-Some
unfolding matrix_verdict matrix_of
returns-in-Some c =
    let l = c.loop-pair in
    sym (ap matrix_finding (searched_at _ _ l.pair _ l.invariant.2 c.loop-pair-test.true
    (difference_at _ _ _ _ (sym c.in-Some.is ∙ c.differences_deviation-found.ensures.value))))

pub next-pair-requires : goal.next-pair-requires
next-pair-requires c =
    let l = c.loop-pair in
    let taken = c.loop-pair-test.true in
    let narrow = c.requires.narrow in
    (l.invariant.2.ordered, taken, searched_few _ _ l.pair l.invariant.2 taken narrow)

pub loop-pair-smaller : goal.loop-pair-smaller
loop-pair-smaller c = rw c.next-pair.ensures (left_falls _ _ c.loop-pair.invariant.2.ordered c.loop-pair-test.true)

pub loop-pair-preserved : goal.loop-pair-preserved
loop-pair-preserved c =
    let l = c.loop-pair in
    let called = c.differences_deviation-found in (
      l.invariant.0,
      called.ensures.cleared_2 c.in_default.is,
      rw c.next-pair.ensures (searched_next _ _ l.pair l.invariant.2 c.loop-pair-test.true
          (difference_nowhere _ _ _ (sym c.in_default.is ∙ called.ensures.value))),
    )

pub returns : goal.returns
unfolding matrix_verdict matrix_of
returns c = sym (ap matrix_finding (searched_none _ _ _ c.loop-pair.invariant.2 c.loop-pair-test.false))
