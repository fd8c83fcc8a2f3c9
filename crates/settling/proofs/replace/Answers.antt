-- `settling::replace` meets its contract: the bytes are put, and what is left of the used ones after them is cleared.
use Rattle.settling.proofs.Cleared.{rest_cleared, none_left}
use Rattle.settling.proofs.replace.Goals as goal

pub returns-then-end-used : goal.returns-then-end-used
returns-then-end-used c =
    rest_cleared c.put_bytes-end.ensures _ c.requires.zeros
    c.if-end-used.true c.clear.ensures

pub returns-else-end-used : goal.returns-else-end-used
returns-else-end-used c =
    none_left c.put_bytes-end.ensures _ c.requires.zeros c.if-end-used.false
