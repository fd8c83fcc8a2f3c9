-- `sheet_in_hand::allowed` meets its contract: the number of the step decides which comparison is asked.
use borrow.Author.Tests.{eq-eqb, ne_eqb}
use Rattle.sheet_in_hand.specs.Stepping.{kind_allowed}
use Rattle.sheet_in_hand.proofs.allowed.Goals as goal

pub returns-then-number-eq1 : goal.returns-then-number-eq1
unfolding kind_allowed
returns-then-number-eq1 c = rw (eq-eqb _ _ c.if-number-eq1.true)

pub returns-else-number-eq1 : goal.returns-else-number-eq1
unfolding kind_allowed
returns-else-number-eq1 c = rw (ne_eqb _ _ c.if-number-eq1.false)
