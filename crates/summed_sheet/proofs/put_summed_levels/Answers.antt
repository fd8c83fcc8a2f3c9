-- `summed_sheet::put_summed_levels` meets its contract. The invariant: the level counts that those before the one in hand give are put.
use native.Mathlib.Omega.{arith}
use lib.ListN.{length-replicate}
use Rattle.finite.specs.Lists.{AllBelow}
use Rattle.sum_bytes.specs.Summing.{summed_levels}
use Rattle.sum_bytes.proofs.Pieces.{pieces_none, pieces_room, pieces_next, pieces_all}
use Rattle.summed_sheet.proofs.put_summed_levels.Goals as goal

pub loop-s-init : goal.loop-s-init
loop-s-init c = pieces_none _ _ _ _ (omega arith)

pub bounds-widths-s : goal.bounds-widths-s
unfolding AllBelow
bounds-widths-s c =
    c.requires.all_below c.loop-s.s-index c.loop-s-test.true

pub put_repeated-place-requires : goal.put_repeated-place-requires
unfolding summed_levels
put_repeated-place-requires c =
    rw (length-replicate) at
    (pieces_room c.loop-s.invariant c.loop-s-test.true
    c.requires.levels_in_bounds)

pub loop-s-preserved : goal.loop-s-preserved
loop-s-preserved c =
    pieces_next c.loop-s.invariant c.loop-s-test.true c.put_repeated-place.ensures

pub returns : goal.returns
unfolding summed_levels
returns c = pieces_all c.loop-s.invariant c.loop-s-test.false
