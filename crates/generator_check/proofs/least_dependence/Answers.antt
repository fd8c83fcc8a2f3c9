-- `least_dependence` meets its contract: no coefficient list so far combines the columns to zero.
-- Assumes nothing.
use mathlib.Core.Path.{sym, ◌∙◌, ap}
use native.Mathlib.Nat.{le_trans, lt_of_lt_of_le}
use native.Mathlib.Omega.{arith}
use lib.Dec.{lit≤}
use Rattle.galois.proofs.Fields.{size_positive}
use Rattle.combining.specs.Combining.{as_dependence, grid_of}
use Rattle.combining.proofs.Combinings.{dependence_none, dependence_at, lists_many}
use Rattle.generator_check.proofs.least_dependence.Goals as goal

pub power-requires : goal.power-requires
power-requires c = (size_positive _ c.requires.size, le_trans c.requires.one_power (lit≤ tt))

pub power-requires-2 : goal.power-requires-2
power-requires-2 c = (size_positive _ c.requires.size, le_trans c.requires.other_power (lit≤ tt))

pub loop-coefficients-init : goal.loop-coefficients-init
loop-coefficients-init c = (
  rw (c.power.ensures, c.power-2.ensures) (lists_many _ _ _),
  λ w p h. absurd (omega arith),
)

pub returns-then-combines_to_zero : goal.returns-then-combines_to_zero
unfolding grid_of
returns-then-combines_to_zero c =
    let l = c.loop-coefficients in
    sym (ap as_dependence (dependence_at _ _ _ _ l.coefficients (omega arith) (rw (← l.invariant.0) c.loop-coefficients-test.true) (sym c.combines_to_zero.ensures ∙ c.if-combines_to_zero.true) l.invariant.1))

pub returns : goal.returns
unfolding grid_of
returns c =
    let l = c.loop-coefficients in
    sym (ap as_dependence (dependence_none _ _ _ _ (λ w p h. l.invariant.1 w p (lt_of_lt_of_le h (rw (← l.invariant.0) c.loop-coefficients-test.false)))))
