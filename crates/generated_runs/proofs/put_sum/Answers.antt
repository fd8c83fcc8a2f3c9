-- `put_sum` meets its contract. The invariant: the first sums are put, and what stands before them is as it was.
-- Assumes nothing.
use mathlib.Core.Path.{◌≡◌}
use mathlib.Core.List.{List}
use Prim.Native.Nat.{ℕ, ◌+◌, ◌*◌, ◌≤◌, ◌<◌}
use native.Mathlib.Nat.{le_antisymm, mul-le-mul, lt_of_lt_of_le}
use native.Mathlib.Omega.{arith}
use lib.Arith.{digits_lt}
use lib.ListN.{length, get_or}
use Rattle.buffers.specs.Put.{Put}
use Rattle.buffers.proofs.Puts.{put_before}
use Rattle.layout.proofs.Rows.{values_none, values_next, values_room}
use Rattle.generated_runs.specs.LevelSums.{SumsStand, run_sum}
use Rattle.generated_runs.proofs.put_sum.Goals as goal

-- the two levels in hand are those that stood there at first, and their sum is in the table of the sums
module _ {most one other n at : ℕ} {sums before : List ℕ} (room : (one + n ≤ at) × (other + n ≤ at) × (at + n ≤ length before))
    (stand : SumsStand most sums before one other n) {table bytes : List ℕ} {i place : ℕ} (put : Put before at bytes table place) (taken : i < n) where
  first_same : get_or table (one + i) 0 ≡ get_or before (one + i) 0
  first_same = put_before put (omega arith)

  second_same : get_or table (other + i) 0 ≡ get_or before (other + i) 0
  second_same = put_before put (omega arith)

  sum_in : get_or table (one + i) 0 * most + get_or table (other + i) 0 < length sums
  sum_in =
      rw (first_same, second_same, stand.places)
      (lt_of_lt_of_le (digits_lt (stand.first i taken) (stand.second i taken)) (mul-le-mul stand.few stand.few))

pub loop-i-init : goal.loop-i-init
loop-i-init c = values_none _ (omega arith)

pub bounds-sums-x : goal.bounds-sums-x
bounds-sums-x c = sum_in c.requires.n_bound c.requires.sums_stand c.loop-i.invariant c.loop-i-test.true

pub put_byte-place-requires : goal.put_byte-place-requires
put_byte-place-requires c = values_room _ c.loop-i.i _ c.loop-i.invariant c.loop-i-test.true c.requires.n_bound.2

pub loop-i-preserved : goal.loop-i-preserved
loop-i-preserved c =
    let pre = c.requires in
    let l = c.loop-i in
    let taken = c.loop-i-test.true in
    values_next _ l.invariant
    (rw (first_same pre.n_bound pre.sums_stand l.invariant taken, second_same pre.n_bound pre.sums_stand l.invariant taken) at c.put_byte-place.ensures)

pub returns : goal.returns
unfolding run_sum
returns c = rw (le_antisymm c.loop-i-test.false c.loop-i.auto.i-end) c.loop-i.invariant
