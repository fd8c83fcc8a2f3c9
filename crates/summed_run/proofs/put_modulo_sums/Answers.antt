-- `summed_run::put_modulo_sums` meets its contract. The invariant: the sums with the entries before the one in hand are put, up to `place`.
use mathlib.Core.Path.{sym, ◌∙◌}
use Prim.Native.Nat.{◌+◌, ◌%◌}
use lib.ListN.{length-map}
use Rattle.finite.specs.Lists.{AllBelow}
use Rattle.finite.proofs.Lists.{get_d_map}
use Rattle.sum_bytes.proofs.Pieces.{front_next}
use Rattle.summed_run.proofs.put_modulo_sums.Goals as goal

pub modulo_sum-requires : goal.modulo_sum-requires
unfolding AllBelow
modulo_sum-requires c =
    (c.requires.level_lt_p.0, c.requires.level_lt_p.1 _ c.loop-b-test.true)

pub loop-b-preserved : goal.loop-b-preserved
loop-b-preserved c =
    let below = c.loop-b-test.true in
    let a = c.args in
    front_next c.loop-b.invariant (rw length-map below) (c.modulo_sum.ensures ∙ sym (get_d_map (λ b. (a.level + b) % a.p) a.row.now below)) c.put_byte-place.ensures
