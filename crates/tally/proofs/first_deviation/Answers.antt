-- `first_deviation` meets its contract: the counters that were read were even and are zero now, the others are as they were.
-- Assumes nothing.
use mathlib.Core.Path.{sym, ◌∙◌, ap}
use native.Mathlib.Nat.{le_refl, le_antisymm}
use native.Mathlib.Omega.{arith}
use Rattle.std.specs.Prelude.{Some}
use Rattle.counting.proofs.Deviations.{deviation_none, deviation_at}
use Rattle.tally.specs.Tally.{as_deviation}
use Rattle.tally.proofs.first_deviation.Goals as goal

pub returns-then-n-times-clause-value : goal.returns-then-n-times-clause-value
returns-then-n-times-clause-value c =
    let l = c.loop-value in
    let kept = l.invariant.2 l.value (le_refl _) in
    ap (λ t. Some (record { value = l.value; times = t })) kept
    ∙ sym (ap as_deviation (deviation_at _ _ _ l.value c.loop-value-test.true l.invariant.3 (λ e. c.if-n-times.true (rw kept e))))

pub returns-clause-value : goal.returns-clause-value
returns-clause-value c =
    let l = c.loop-value in
    let all = le_antisymm l.auto.value-end c.loop-value-test.false in
    sym (ap as_deviation (deviation_none _ _ _ (λ v h. l.invariant.3 v (omega arith))))
