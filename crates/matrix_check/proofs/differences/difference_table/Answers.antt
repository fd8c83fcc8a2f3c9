-- `difference_table` meets its contract. The invariant: the sums before the one in hand have told their differences.
-- Assumes nothing.
use Prim.Native.Nat.{◌*◌, ◌≤◌, ◌<◌}
use native.Mathlib.Nat.{mul-le-mul, lt_of_lt_of_le}
use Rattle.matrix_check.proofs.Told.{told_at, told_in, told_more, told_all}
use Rattle.matrix_check.proofs.differences.difference_table.Goals as goal

pub bounds-differences-x : goal.bounds-differences-x
bounds-differences-x c =
    let told_place : told_at c.args.p c.loop-place.place < 4096 =
    let squared : c.args.p * c.args.p ≤ 4096 =
    mul-le-mul c.requires.1 c.requires.1
    in
    lt_of_lt_of_le (told_in c.requires.0 c.loop-place-test.true) squared
    in
    rw c.level_sum-x.ensures told_place

pub loop-place-preserved : goal.loop-place-preserved
loop-place-preserved c =
    let squared : c.args.p * c.args.p ≤ 4096 =
    mul-le-mul c.requires.1 c.requires.1
    in
    rw c.level_sum-x.ensures (told_more c.requires.0 c.loop-place.invariant c.loop-place-test.true squared)

pub returns : goal.returns
returns c =
    let l = c.loop-place in
    told_all c.requires.0 (record { places = l.invariant.places; each = λ q h. l.invariant.each q (lt_of_lt_of_le h c.loop-place-test.false) })
