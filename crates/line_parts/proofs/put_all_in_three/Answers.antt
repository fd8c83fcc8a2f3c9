-- `line_parts::put_all_in_three` meets its contract. The invariant: the numbers before this one are put, up to `place`.
use native.Mathlib.Omega.{arith}
use Rattle.line_parts.proofs.Lines.{all_none, all_next, all_room, all_done}
use Rattle.line_parts.proofs.put_all_in_three.Goals as goal

pub loop-number-init : goal.loop-number-init
loop-number-init c = all_none c.args.numbers.now (omega arith)

pub put_in_three-place-requires : goal.put_in_three-place-requires
put_in_three-place-requires c =
    (omega (arith, c.type_inv.numbers c.loop-number.number-index), all_room _ _ c.loop-number-test.true c.loop-number.invariant c.requires)

pub loop-number-preserved : goal.loop-number-preserved
loop-number-preserved c =
    all_next _ _ c.loop-number-test.true (omega (arith, c.type_inv.numbers c.loop-number.number-index)) c.loop-number.invariant c.put_in_three-place.ensures

pub returns : goal.returns
returns c = all_done _ _ c.loop-number-test.false c.loop-number.invariant
