-- The most columns of a factor, found one factor after the other.
-- Assumes nothing.
use mathlib.Core.Path.{◌≡◌}
use mathlib.Core.Logic.{by_cases}
use Prim.Native.Nat.{ℕ, ◌+◌, ◌-◌, ◌^◌, ◌≤◌, ◌<◌, max}
use native.Mathlib.Nat.{le-max_left, le-max_right, max-eq_left, max-eq_right, le_trans}
use native.Mathlib.Numerals.{lt_of_le_of_ne}
use native.Mathlib.Decide.{ℕ_discrete}
use native.Mathlib.Omega.{arith}

pub widths_more : (f : ℕ → ℕ) {n most : ℕ} → ((i : ℕ) → i < n → f i ≤ most) → (i : ℕ) → i < n + 1 → f i ≤ max most (f n)
widths_more f {n} {most} so_far i h =
    by_cases (ℕ_discrete i n)
    (λ (same : i ≡ n). rw same (le-max_right most (f n)))
    (λ (other : i ≡ n → ⊥). le_trans (so_far i (lt_of_le_of_ne (omega (arith, h)) other)) (le-max_left most (f n)))

pub power_larger : (s a b : ℕ) {k : ℕ} → s ^ a ≤ k → s ^ b ≤ k → s ^ max a b ≤ k
power_larger s a b {k} ha hb =
    by_cases (ℕ_discrete (a - b) 0)
    (λ (low : a - b ≡ 0). rw (max-eq_right {n = a} {m = b} (omega arith)) hb)
    (λ (high : a - b ≡ 0 → ⊥). rw (max-eq_left {n = a} {m = b} (omega arith)) ha)
