-- `question_1::long_enough` meets its contract: each comparison decides what `&&` gives.
use borrow.Author.Tests.{le-leb, lt-leb}
use Rattle.question_1.proofs.long_enough.Goals as goal

pub returns-then-table-lt65536 : goal.returns-then-table-lt65536
returns-then-table-lt65536 c = simp (lt-leb _ _ c.if-table-lt65536.true)

pub returns-then-levels-lt128 : goal.returns-then-levels-lt128
returns-then-levels-lt128 c = simp (le-leb _ _ c.if-table-lt65536.false, lt-leb _ _ c.if-levels-lt128.true)

pub returns : goal.returns
returns c = simp (le-leb _ _ c.if-table-lt65536.false, le-leb _ _ c.if-levels-lt128.false)
