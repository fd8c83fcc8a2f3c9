-- Differences of two numbers, as integers: how they add up, when they are the same, and how large they are.
-- Assumes nothing.
use mathlib.Core.Path.{◌≡◌, refl, sym, ◌∙◌, ap, ap₂}
use mathlib.Core.Bool.{Bool, true, false, cond}
use Prim.Native.Nat.{ℕ, zero, suc, ◌+◌, ◌-◌, ◌≤◌, zero-le}
use native.Mathlib.Nat.{add_comm}
use native.Mathlib.Omega.{arith}
use borrow.Author.Tests.{ltb-true, ltb-false}
use lib.Dec.{ltb, le→leb}
use lib.IntN.{ℤ, pos, negsuc, neg_ℤ, nat_abs, ◌+ℤ◌, ◌-ℤ◌, +ℤ_assoc, +ℤ_comm, +ℤ_invr, +ℤ_idr, neg_ℤ-+ℤ, neg_ℤ-neg_ℤ}
use lib.Signed.{mag, ◌≤ℤ◌, le_z_yes}

-- two sums of two, added crosswise
crosswise : (a b c d : ℤ) → (a +ℤ b) +ℤ (c +ℤ d) ≡ (a +ℤ c) +ℤ (b +ℤ d)
crosswise a b c d =
    +ℤ_assoc a b (c +ℤ d)
    ∙ ap (λ x. a +ℤ x) (sym (+ℤ_assoc b c d) ∙ ap (λ x. x +ℤ d) (+ℤ_comm b c) ∙ +ℤ_assoc c b d)
    ∙ sym (+ℤ_assoc a c (b +ℤ d))

pub difference_sum : (a b c d : ℕ) → (pos a -ℤ pos b) +ℤ (pos c -ℤ pos d) ≡ pos (a + c) -ℤ pos (b + d)
difference_sum a b c d =
    crosswise (pos a) (neg_ℤ (pos b)) (pos c) (neg_ℤ (pos d)) ∙ ap (λ x. pos (a + c) +ℤ x) (sym (neg_ℤ-+ℤ (pos b) (pos d)))

opposite : (c d : ℕ) → neg_ℤ (pos c -ℤ pos d) ≡ pos d -ℤ pos c
opposite c d =
    neg_ℤ-+ℤ (pos c) (neg_ℤ (pos d))
    ∙ ap (λ x. neg_ℤ (pos c) +ℤ x) (neg_ℤ-neg_ℤ (pos d))
    ∙ +ℤ_comm (neg_ℤ (pos c)) (pos d)

pub difference_less : (a b c d : ℕ) → (pos a -ℤ pos b) -ℤ (pos c -ℤ pos d) ≡ pos (a + d) -ℤ pos (b + c)
difference_less a b c d = ap (λ x. (pos a -ℤ pos b) +ℤ x) (opposite c d) ∙ difference_sum a b d c

-- as much on both sides
widened : (a b d : ℕ) → pos a -ℤ pos b ≡ pos (a + d) -ℤ pos (b + d)
widened a b d = sym (+ℤ_idr (pos a -ℤ pos b)) ∙ ap (λ x. (pos a -ℤ pos b) +ℤ x) (sym (+ℤ_invr (pos d))) ∙ difference_sum a b d d

pub same_difference : (a b c d : ℕ) → a + d ≡ c + b → pos a -ℤ pos b ≡ pos c -ℤ pos d
same_difference a b c d e = widened a b d ∙ ap₂ (λ x y. pos x -ℤ pos y) e (add_comm b d) ∙ sym (widened c d b)

pub difference_positive : (a b : ℕ) → b ≤ a → pos 0 ≤ℤ (pos a -ℤ pos b)
difference_positive a b h = rw (same_difference a b (a - b) 0 (omega arith)) (le_z_yes (le→leb 0 (a - b + 0) zero-le))

either : (t : Bool) (x y : ℕ) → mag (cond t (negsuc x) (pos y)) ≤ x + y
either true x y = omega arith
either false x y = omega arith

pub difference_most : (a b : ℕ) → mag (pos a -ℤ pos b) ≤ a + b
difference_most a zero = omega arith
difference_most a (suc b) = let most = either (ltb a (suc b)) (suc b - suc a) (a - suc b) in omega arith

pub sum_most : (x y : ℤ) → mag (x +ℤ y) ≤ mag x + mag y + 1
sum_most (pos a) (pos b) = omega arith
sum_most (pos a) (negsuc b) = let most = either (ltb a (suc b)) (suc b - suc a) (a - suc b) in omega arith
sum_most (negsuc a) (pos b) = let most = either (ltb b (suc a)) (suc a - suc b) (b - suc a) in omega arith
sum_most (negsuc a) (negsuc b) = omega arith

size_either : (t : Bool) (a b : ℕ) → ltb a (suc b) ≡ t → nat_abs (cond t (negsuc (suc b - suc a)) (pos (a - suc b))) ≡ (a - suc b) + (suc b - a)
size_either true a b e = let below = ltb-true a (suc b) e in omega arith
size_either false a b e = let above = ltb-false a (suc b) e in omega arith

-- a difference's size, its sign ignored
pub difference_size : (a b : ℕ) → nat_abs (pos a -ℤ pos b) ≡ (a - b) + (b - a)
difference_size a zero = omega arith
difference_size a (suc b) = size_either (ltb a (suc b)) a b refl
