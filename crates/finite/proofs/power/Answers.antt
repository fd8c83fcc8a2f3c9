-- `power` meets its contract: the product so far is the power so far, which no later one falls below.
-- Assumes nothing.
use mathlib.Core.Path.{◌≡◌, sym}
use Prim.Native.Nat.{suc, ◌*◌, ◌^◌}
use native.Mathlib.Nat.{le_trans, lt_of_le_of_lt, pow-suc, pow-le-pow_right}
use lib.Dec.{lit<}
use Rattle.finite.proofs.power.Goals as goal

pub overflow_mul-product : goal.overflow_mul-product
overflow_mul-product c =
    let l = c.loop-i in
    let s = c.args.s in
    let next : l.product * s ≡ s ^ suc l._i = rw l.invariant (sym (pow-suc s l._i)) in
    record { fits = rw next (lt_of_le_of_lt (le_trans (pow-le-pow_right c.requires.0 c.loop-i-test.true) c.requires.1) (lit< tt)) }
