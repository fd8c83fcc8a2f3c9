-- `ingredient_numbers::widths` meets its contract. The invariant: reading what is left from the cursor on, with the sum so far added, gives the
-- answer of the whole; and each width is at most 6, so the sum stays small.
use mathlib.Core.Path.{◌≡◌, sym, ◌∙◌}
use Prim.Native.Nat.{ℕ, ◌≤◌}
use mathlib.Core.List.{List}
use native.Mathlib.Omega.{arith}
use Rattle.order.specs.Order.{FactorWidth}
use Rattle.order.specs.Reader.{value, allowed}
use Rattle.order.specs.Grammar.{factor_width}
use Rattle.order.proofs.Tests.{factor_width_iff}
use Rattle.order.proofs.Powers.{width_small}
use Rattle.order.proofs.Law.{number_law}
use Rattle.order.proofs.Answers.{number_value, number_refused, passed_on, sum_on, sum_refused, sum_done, plus_zero}
use Rattle.ingredient_numbers.proofs.widths.Goals as goal

-- A width that was read is at most 6.
at_most_six : (s : ℕ) → 2 ≤ s → (list : List ℕ) (at : ℕ) {x next : ℕ} → allowed (factor_width s) list at ≡ value x next → x ≤ 6
at_most_six s low list at e =
    width_small s _ low ((number_law (factor_width s) (FactorWidth s) (factor_width_iff s)).sound list at _ _ e).0

pub overflow_add-sum : goal.overflow_add-sum
overflow_add-sum c =
    let width_read = number_value _ (sym c.factor_width.ensures ∙ c.in_ok-width.was) in
    let small = at_most_six c.args.s c.requires.0.0 _ _ width_read in
    omega (arith, small, c.requires.1)

pub returns-in_err-width : goal.returns-in_err-width
returns-in_err-width c =
    let e = number_refused _ (sym c.factor_width.ensures ∙ c.in_err-width.was) in
    passed_on c.from_residual.ensures.1
    (sym (sum_refused (allowed (factor_width c.args.s)) c.args.list.now c.loop.c.at c.loop.sum c.args.n c.loop.counter c.loop-test.true e)
    ∙ c.loop.invariant.1)

pub loop-preserved : goal.loop-preserved
loop-preserved c =
    let width_read = number_value _ (sym c.factor_width.ensures ∙ c.in_ok-width.was) in
    let small = at_most_six c.args.s c.requires.0.0 _ _ width_read in (
      omega (arith, small),
      sym (sum_on (allowed (factor_width c.args.s)) c.args.list.now c.loop.c.at c.loop.sum c.args.n c.loop.counter c.loop-test.true width_read)
          ∙ c.loop.invariant.1,
    )

pub returns : goal.returns
returns c =
    sym (sum_done (allowed (factor_width c.args.s)) c.args.list.now c.loop.c.at c.loop.sum c.args.n c.loop.counter c.loop-test.false)
    ∙ c.loop.invariant.1
