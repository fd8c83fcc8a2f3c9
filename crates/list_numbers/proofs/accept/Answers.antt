-- `list_numbers::accept` meets its contract: each way out has the tests of `allowed` decided.
use borrow.Author.Tests.{lt-ltb, le-ltb}
use Rattle.order.specs.Answers.{number_of}
use Rattle.order.specs.Reader.{allowed}
use Rattle.list_numbers.proofs.accept.Goals as goal

pub returns-then-ok : goal.returns-then-ok
unfolding allowed number_of
returns-then-ok c = simp (lt-ltb _ _ c.if-at-list.true, c.if-ok.true, c.peek.ensures)

pub returns-else-ok : goal.returns-else-ok
unfolding allowed number_of
returns-else-ok c = simp (lt-ltb _ _ c.if-at-list.true, c.if-ok.false)

pub returns-else-at-list : goal.returns-else-at-list
unfolding allowed number_of
returns-else-at-list c = simp (le-ltb _ _ c.if-at-list.false)
