-- `input::after_read` meets its contract: the text's end, or the state after the bytes.
use mathlib.Core.Path.{ap}
use Rattle.input.specs.Input.{onward}
use Rattle.input.proofs.Scanning.{read_none, read_some}
use Rattle.input.proofs.after_read.Goals as goal

pub returns-then-bytes-eq0 : goal.returns-then-bytes-eq0
returns-then-bytes-eq0 c = read_none _ _ c.if-bytes-eq0.true c.finish.ensures

pub returns-in-Between : goal.returns-in-Between
returns-in-Between c = read_some _ _ c.if-bytes-eq0.false c.piece-reached.ensures (ap onward c.in-Between.is)

pub returns-in-Inside : goal.returns-in-Inside
returns-in-Inside c = read_some _ _ c.if-bytes-eq0.false c.piece-reached.ensures (ap onward c.in-Inside.is)

pub returns-in-Failed : goal.returns-in-Failed
returns-in-Failed c = read_some _ _ c.if-bytes-eq0.false c.piece-reached.ensures (ap onward c.in-Failed.is)
