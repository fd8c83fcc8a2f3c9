-- `IndexPair::next` meets its contract: its test is that of the definition.
-- Assumes nothing.
use borrow.Author.Tests.{lt-ltb, le-ltb}
use Rattle.finite.specs.Pairs.{next_pair}
use Rattle.finite.proofs.pairs.IndexPair.next.Goals as goal

pub returns-then-second-n : goal.returns-then-second-n
unfolding next_pair
returns-then-second-n c = rw (lt-ltb _ _ c.if-second-n.true)

pub returns-else-second-n : goal.returns-else-second-n
unfolding next_pair
returns-else-second-n c = rw (le-ltb _ _ c.if-second-n.false)
