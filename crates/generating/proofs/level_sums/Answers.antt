-- `level_sums` meets its contract. The invariant: the sums before the place are there.
-- Assumes nothing.
use mathlib.Core.Path.{◌≡◌}
use mathlib.Core.List.{List}
use Prim.Native.Nat.{ℕ, ◌+◌, ◌*◌, ◌/◌, ◌%◌, ◌^◌, ◌≤◌, ◌<◌}
use native.Mathlib.Nat.{mul-le-mul, lt_of_lt_of_le}
use native.Mathlib.Omega.{arith}
use lib.Dec.{T}
use lib.ListN.{get_or}
use Rattle.galois.specs.Arithmetic.{field_size, field_sum}
use Rattle.generated_runs.specs.LevelSums.{SumsOf}
use Rattle.generated_runs.proofs.LevelSums.{sums_none, sums_more, sum_small}
use Rattle.generating.proofs.level_sums.Goals as goal

-- the sum in hand is a level
sum_fits : (s width : ℕ) {most place : ℕ} {sums : List ℕ} → T (field_size s) × (s ^ width ≤ 64) → most ≡ s ^ width → SumsOf s width place sums
    → 0 < place → place < most * most
    → get_or sums (place / most / s * most + place % most / s) 0 * s + field_sum s (place / most % s) (place % most % s) < 64
sum_fits s width known most_is so_far more taken =
    rw most_is (sum_small s known.0 width more (rw most_is at taken) so_far known.1)

pub loop-place-init : goal.loop-place-init
loop-place-init c = sums_none _ c.requires.0 _

pub overflow_mul-sums : goal.overflow_mul-sums
overflow_mul-sums c =
    omega (arith, sum_fits _ _ c.requires c.power-most.ensures c.loop-place.invariant (omega arith) c.loop-place-test.true)

pub overflow_add-sums : goal.overflow_add-sums
overflow_add-sums c =
    rw c.sum.ensures
    (omega (arith, sum_fits _ _ c.requires c.power-most.ensures c.loop-place.invariant (omega arith) c.loop-place-test.true))

pub loop-place-preserved : goal.loop-place-preserved
loop-place-preserved c =
    let l = c.loop-place in
    let squared : c.power-most.result * c.power-most.result ≤ 4096 =
    rw c.power-most.ensures (mul-le-mul c.requires.1 c.requires.1)
    in
    let within = rw c.power-most.ensures at c.loop-place-test.true in
    rw (c.sum.ensures, c.power-most.ensures)
    (sums_more _ c.requires.0 _ (omega arith) within l.invariant (lt_of_lt_of_le c.loop-place-test.true squared))
