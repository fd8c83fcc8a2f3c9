-- The value that is farthest off among those below k, for one k after the other.
-- Assumes nothing.
use mathlib.Core.Path.{◌≡◌, refl, ◌∙◌, ap}
use mathlib.Core.Bool.{Bool, true, false, cond}
use Prim.Native.Nat.{ℕ, ◌+◌, ◌<◌, ◌≤◌}
use native.Mathlib.Numerals.{add-one}
use borrow.Author.Tests.{lt-ltb, le-ltb}
use lib.Dec.{ltb}
use lib.IntN.{ℤ, nat_abs}
use Rattle.finite.specs.Greatest.{greatest}
use Rattle.counting.specs.Verdict.{gap, farthest}
use Rattle.gaps.specs.Gaps.{discrepancy, farthest_off}
use Rattle.gaps.specs.declared.Discrepancy.{Discrepancy}

module _ (n N : ℕ) (times_of : ℕ → ℕ) where
  abbrev size : ℕ → ℕ
  size v = nat_abs (gap n N (times_of v))

  -- a discrepancy by its parts
  pub discrepancy_made : (v : ℕ) {g : ℤ} → g ≡ gap n N (times_of v) → record { value = v; times = times_of v; gap = g } ≡ discrepancy n N times_of v
  unfolding discrepancy
  discrepancy_made v e = ap (λ g. record { value = v; times = times_of v; gap = g }) e

  unfoldable pub farthest_below : ℕ → Discrepancy
  farthest_below k = discrepancy n N times_of (greatest k size)

  pub none_yet : discrepancy n N times_of 0 ≡ farthest_below 0
  unfolding farthest_below greatest
  none_yet = refl

  more : (k : ℕ) (b : Bool) → ltb (size (greatest k size)) (size k) ≡ b → discrepancy n N times_of (cond b k (greatest k size)) ≡ farthest_below (k + 1)
  unfolding farthest_below greatest
  more k b e = rw (add-one k, e)

  -- a value that is farther off, by the size of its gap, takes the place of what is in hand, and no other does
  module _ (k : ℕ) {best next : Discrepancy} {a b : ℕ} (so_far : best ≡ farthest_below k) (one : next ≡ discrepancy n N times_of k) (best_size : a ≡ nat_abs best.gap) (next_size : b ≡ nat_abs next.gap) where
    best_is : a ≡ size (greatest k size)
    unfolding farthest_below discrepancy
    best_is = best_size ∙ ap (λ (x : Discrepancy). nat_abs x.gap) so_far

    next_is : b ≡ size k
    unfolding discrepancy
    next_is = next_size ∙ ap (λ (x : Discrepancy). nat_abs x.gap) one

    pub one_taken : a < b → next ≡ farthest_below (k + 1)
    one_taken h = one ∙ more k true (lt-ltb _ _ (rw (best_is, next_is) at h))

    pub one_kept : b ≤ a → best ≡ farthest_below (k + 1)
    unfolding farthest_below
    one_kept h = so_far ∙ more k false (le-ltb _ _ (rw (best_is, next_is) at h))

  pub all_below : farthest_below n ≡ farthest_off n N times_of
  unfolding farthest_below farthest_off farthest
  all_below = refl
