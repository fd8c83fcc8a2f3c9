-- `checker::put_scanned` meets its contract: the two cases of a reading.
use mathlib.Core.Path.{sym}
use native.Mathlib.Omega.{arith}
use lib.Seq.{length-take-le}
use Rattle.words.proofs.Bounds.{ended_room}
use Rattle.checker.proofs.put_scanned.Goals as goal

pub slice_bounds-put_written-end : goal.slice_bounds-put_written-end
slice_bounds-put_written-end c =
    sym (length-take-le _ _ (ended_room c.requires.ended c.in-Ok.is (omega arith)))

pub returns-in-Ok : goal.returns-in-Ok
returns-in-Ok c = rw c.in-Ok.is c.put_written.ensures

pub returns-in-Err : goal.returns-in-Err
returns-in-Err c = rw c.in-Err.is c.put_unreadable.ensures
