-- The p + 1 families of parallel lines a, b, a + k b modulo p on the p × p points (a, b), by which MERGE's members run: two points lie on one
-- common line, a point with itself on p + 1. For p = 2, 3, 5, 7 that is one computed test.
-- Assumes nothing.
use mathlib.Core.Path.{◌≡◌}
use mathlib.Core.Bool.{Bool, ◌&&◌}
use Prim.Native.Nat.{ℕ, zero, suc, ◌+◌, ◌*◌, ◌%◌, ◌<◌}
use native.Mathlib.Nat.{mod-lt}
use native.Mathlib.Omega.{arith}
use lib.Dec.{T, eqb, eqb→eq, ltb, ltb→lt}
use Rattle.finite.specs.Sum.{sum, count, bit, every}
use Rattle.finite.proofs.Tests.{all_every}
use Rattle.galois.specs.Arithmetic.{member}
use Rattle.step_tables.specs.Lists.{all_of}
use Rattle.step_tables.specs.Merge.{merge_primes}
use Rattle.step_tables.proofs.Lists.{all_of_mem, member_mem}

-- the line of family h on which the point lies
abbrev pub line : ℕ → ℕ → ℕ → ℕ → ℕ
line p zero a b = a
line p (suc zero) a b = b
line p (suc (suc k)) a b = (a + suc k * b) % p

pub line_below : (p h a b : ℕ) → a < p → b < p → line p h a b < p
line_below p zero a b h k = h
line_below p (suc zero) a b h k = k
line_below p (suc (suc m)) a b h k = mod-lt (a + suc m * b) (omega arith)

-- on how many lines two points lie together
unfoldable pub common : ℕ → ℕ → ℕ → ℕ → ℕ → ℕ
common p x y a b = count (suc p) (λ h. eqb (line p h x y) (line p h a b))

-- one, and p more for a point and itself
abbrev pub Plane : ℕ → Type 0
Plane p = (x y a b : ℕ) → x < p → y < p → a < p → b < p → common p x y a b ≡ 1 + p * bit (eqb x a && eqb y b)

point_test : ℕ → ℕ → ℕ → ℕ → ℕ → Bool
point_test p x y a b = eqb (common p x y a b) (1 + p * bit (eqb x a && eqb y b))

plane_test : ℕ → Bool
plane_test p = every p (λ x. every p (λ y. every p (λ a. every p (λ b. point_test p x y a b))))

plane_of_test : (p : ℕ) → T (plane_test p) → Plane p
unfolding plane_test point_test
plane_of_test p t x y a b hx hy ha hb =
    let tx = all_every p (λ x'. every p (λ y'. every p (λ a'. every p (λ b'. point_test p x' y' a' b')))) t x hx in
    let ty = all_every p (λ y'. every p (λ a'. every p (λ b'. point_test p x y' a' b'))) tx y hy in
    let ta = all_every p (λ a'. every p (λ b'. point_test p x y a' b')) ty a ha in
    eqb→eq (common p x y a b) (1 + p * bit (eqb x a && eqb y b)) (all_every p (λ b'. point_test p x y a b') ta b hb)

planes : T (all_of plane_test merge_primes)
unfolding plane_test point_test common count sum every
planes = tt

pub merge_plane : (p : ℕ) → T (member p merge_primes) → Plane p
merge_plane p m = plane_of_test p ((all_of_mem plane_test merge_primes).0 planes p (member_mem p merge_primes m))

pub merge_positive : (p : ℕ) → T (member p merge_primes) → 0 < p
merge_positive p m = ltb→lt 0 p ((all_of_mem (ltb 0) merge_primes).0 tt p (member_mem p merge_primes m))
