-- `zero_from` meets its contract. The invariant: all are zero if the rest is.
use mathlib.Core.Path.{sym, ◌∙◌}
use Rattle.byte_texts.proofs.Comparing.{zero_later, no_zero_here, zero_end}
use Rattle.byte_texts.proofs.zero_from.Goals as goal

pub returns-then-bytes-at-ne0 : goal.returns-then-bytes-at-ne0
returns-then-bytes-at-ne0 c =
    sym (c.loop-at.invariant ∙ no_zero_here _ _ c.loop-at-test.true c.if-bytes-at-ne0.true)

pub loop-at-preserved : goal.loop-at-preserved
loop-at-preserved c =
    c.loop-at.invariant ∙ zero_later _ _ c.loop-at-test.true c.if-bytes-at-ne0.false

pub returns : goal.returns
returns c = sym (c.loop-at.invariant ∙ zero_end _ _ c.loop-at-test.false)
