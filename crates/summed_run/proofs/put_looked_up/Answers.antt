-- `summed_run::put_looked_up` meets its contract. The invariant: the sums for the entries before the one in hand are put, up to `place`.
use mathlib.Core.Path.{sym}
use lib.ListN.{get_or, length-map}
use Rattle.finite.specs.Lists.{AllBelow}
use Rattle.finite.proofs.Lists.{get_d_map}
use Rattle.sum_bytes.proofs.Pieces.{front_next}
use Rattle.summed_run.proofs.put_looked_up.Goals as goal

pub bounds-sums-b : goal.bounds-sums-b
unfolding AllBelow
bounds-sums-b c =
    c.requires.all_below _ c.loop-b-test.true

pub loop-b-preserved : goal.loop-b-preserved
loop-b-preserved c =
    let below = c.loop-b-test.true in
    let a = c.args in
    front_next c.loop-b.invariant (rw length-map below) (sym (get_d_map (λ b. get_or a.sums.now b 0) a.row.now below)) c.put_byte-place.ensures
