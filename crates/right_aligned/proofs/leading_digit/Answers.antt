-- `right_aligned::leading_digit` meets its contract: no digit of 0, and the last one of any other number.
use mathlib.Core.Path.{sym}
use Rattle.right_aligned.proofs.Digits.{leading_none, leading_some}
use Rattle.right_aligned.proofs.leading_digit.Goals as goal

pub returns-then-value-eq0 : goal.returns-then-value-eq0
returns-then-value-eq0 c = sym (leading_none _ c.if-value-eq0.true)

pub returns : goal.returns
returns c = sym (leading_some _ c.if-value-eq0.false)
