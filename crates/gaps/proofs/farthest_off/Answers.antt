-- `farthest_off` meets its contract: what is in hand is the farthest of the values so far.
use mathlib.Core.Path.{◌∙◌, ap}
use native.Mathlib.Nat.{le_antisymm}
use borrow.Author.Rules.{sfits_of}
use Rattle.integers.proofs.Signs.{size_read}
use Rattle.gaps.proofs.Farthest.{farthest_below, none_yet, one_kept, one_taken, all_below}
use Rattle.gaps.proofs.farthest_off.Goals.{then-magnitude, else-magnitude}
use Rattle.gaps.proofs.farthest_off.Goals as goal

pub loop-value-init : goal.loop-value-init
loop-value-init c = c.discrepancy_at-farthest.ensures ∙ none_yet _ _ _

pub loop-value-preserved : goal.loop-value-preserved
loop-value-preserved c =
    let l = c.loop-value in
    let next = c.discrepancy_at-next in
    let best_size = size_read l.farthest.gap (sfits_of c.struct_told-1.given.1.1.0.1) c.magnitude.ensures in
    let next_size = size_read next.result.gap (sfits_of c.struct_told-in-loop-value-1.given.1.1.0.1) c.magnitude-in-loop-value.ensures in
    elim c.if-magnitude.branch [
      | then-magnitude w ↦ w.farthest-is ∙ one_taken _ _ _ l.value l.invariant next.ensures best_size next_size w.if-magnitude.true
      | else-magnitude w ↦ w.farthest-is ∙ one_kept _ _ _ l.value l.invariant next.ensures best_size next_size w.if-magnitude.false
    ]

pub returns : goal.returns
returns c =
    let l = c.loop-value in
    l.invariant
    ∙ ap (farthest_below _ _ _) (le_antisymm l.auto.value-end c.loop-value-test.false)
    ∙ all_below _ _ _
