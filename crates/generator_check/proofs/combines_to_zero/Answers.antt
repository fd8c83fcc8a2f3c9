-- `combines_to_zero` meets its contract: every row so far is combined to zero.
-- Assumes nothing.
use mathlib.Core.Path.{◌∙◌}
use native.Mathlib.Nat.{lt_of_lt_of_le}
use Rattle.combining.proofs.Combinings.{block_elements, rows_combine, row_fails}
use Rattle.generator_check.proofs.combines_to_zero.Goals as goal

pub row_combination-requires-clause-elements_at : goal.row_combination-requires-clause-elements_at
row_combination-requires-clause-elements_at c = block_elements c.requires c.loop-i.i _ _ c.loop-i-test.true c.requires.one_in

pub row_combination-requires-clause-elements_at_2 : goal.row_combination-requires-clause-elements_at_2
row_combination-requires-clause-elements_at_2 c = block_elements c.requires c.loop-i.i _ _ c.loop-i-test.true c.requires.other_in

pub returns-then-row_combination-ne0 : goal.returns-then-row_combination-ne0
returns-then-row_combination-ne0 c =
    row_fails _ _ _ _ _ _ _ c.loop-i.i c.loop-i-test.true
    (λ e. c.if-row_combination-ne0.true (c.row_combination.ensures ∙ e))

pub returns : goal.returns
returns c = rows_combine _ _ _ _ _ _ _ (λ r h. c.loop-i.invariant r (lt_of_lt_of_le h c.loop-i-test.false))
