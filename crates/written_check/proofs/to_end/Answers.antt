-- `to_end` meets its contract: a number is left over, or none is.
-- Assumes nothing.
use Rattle.written_check.proofs.Answers.{left_over, none_left}
use Rattle.written_check.proofs.to_end.Goals as goal

pub returns-then-at-length : goal.returns-then-at-length
returns-then-at-length c = left_over _ _ _ c.if-at-length.true

pub returns : goal.returns
returns c = none_left _ _ _ c.if-at-length.false
