-- `stored_sheets::repeat` meets its contract. The invariant: the bytes before i are filled.
use Rattle.stored_sheets.proofs.Repeating.{repeated_none, repeating_more}
use Rattle.stored_sheets.proofs.repeat.Goals as goal

pub returns-then-count-eq0 : goal.returns-then-count-eq0
returns-then-count-eq0 c i h = repeated_none _ _ _ i c.if-count-eq0.true

pub loop-i-preserved : goal.loop-i-preserved
loop-i-preserved c =
    repeating_more _ _ _ _ _ c.loop-i.invariant c.loop-i-test.true c.if-count-eq0.false c.number_at.ensures.value
