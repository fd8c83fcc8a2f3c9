-- A number by its sign, as it is read from its bits and tested.
-- Assumes nothing.
use mathlib.Core.Path.{◌≡◌, refl, ◌∙◌, ap}
use mathlib.Core.Bool.{true, false}
use Prim.Native.Nat.{ℕ}
use native.Mathlib.Omega.{arith}
use borrow.Author.Tests.{ltb-true}
use lib.IntN.{ℤ, pos, negsuc, nat_abs}
use lib.Signed.{mag, lt_z}
use mir.Facts.{to_z-of_z}
use mir.Syntax.{w64}
use mir.Val.{SFits, to_z, of_z}

-- What is read from the bits of a number.
abbrev read : ℤ → ℤ
read z = to_z w64 (of_z w64 z)

-- The size of what is read is that of the number.
pub size_read : (z : ℤ) {size : ℕ} → SFits w64 z → size ≡ nat_abs (read z) → size ≡ nat_abs z
size_read z word e = e ∙ ap nat_abs (to_z-of_z word)

negative : (z : ℤ) → lt_z z (pos 0) ≡ true → z ≡ negsuc (mag z)
negative (pos n) below = absurd (omega (arith, ltb-true n 0 below))
negative (negsuc n) below = refl

not_negative : (z : ℤ) → lt_z z (pos 0) ≡ false → z ≡ pos (mag z)
not_negative (pos n) above = refl
not_negative (negsuc n) above = let never : ◌≡◌ {A = ℕ} 0 1 = cc in absurd (omega arith)

module _ {z : ℤ} (word : SFits w64 z) where
  module _ (below : lt_z (read z) (pos 0) ≡ true) where
    pub is_negative : z ≡ negsuc (mag z)
    is_negative = negative z (rw (to_z-of_z word) at below)

  module _ (above : lt_z (read z) (pos 0) ≡ false) where
    pub is_plain : z ≡ pos (mag z)
    is_plain = not_negative z (rw (to_z-of_z word) at above)
