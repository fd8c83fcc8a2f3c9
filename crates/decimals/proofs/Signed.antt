-- Laws of `signed_digits`: the bytes by the sign of a number, as it is read from its bits and tested; and how many there are.
use mathlib.Core.Path.{◌≡◌}
use mathlib.Core.Bool.{true, false}
use mathlib.Core.List.{◌∷◌}
use Prim.Native.Nat.{ℕ, suc, ◌≤◌, suc-le-suc}
use native.Mathlib.Omega.{arith}
use lib.IntN.{ℤ, pos, negsuc, nat_abs}
use lib.ListN.{length}
use lib.Signed.{lt_z}
use mir.Syntax.{w64}
use mir.Val.{SFits, to_z, of_z}
use Rattle.integers.proofs.Signs.{size_read, is_negative, is_plain}
use Rattle.decimals.specs.Decimals.{decimal_digits, signed_digits}
use Rattle.decimals.proofs.Decimals.{decimal_length, decimal_word}

-- What is read from the bits of a number.
abbrev read : ℤ → ℤ
read z = to_z w64 (of_z w64 z)

module _ {z : ℤ} (word : SFits w64 z) {size : ℕ} (size_is : size ≡ nat_abs (read z)) where
  -- A negative number has the digits of its size after its sign.
  pub negative_digits : lt_z (read z) (pos 0) ≡ true → signed_digits z ≡ 45 ∷ decimal_digits size
  unfolding signed_digits
  negative_digits below = rw (size_read z word size_is, is_negative word below)

  -- Any other number has the digits of its size alone.
  pub plain_digits : lt_z (read z) (pos 0) ≡ false → signed_digits z ≡ decimal_digits size
  unfolding signed_digits
  plain_digits above = rw (size_read z word size_is, is_plain word above)

-- A word of 64 bits has at most 19 digits and a sign.
pub signed_word : (z : ℤ) → SFits w64 z → length (signed_digits z) ≤ 20
unfolding signed_digits
signed_word (pos n) word = decimal_word n (omega (arith, word.sfits))
signed_word (negsuc n) word = suc-le-suc (decimal_length 18 (suc n) (omega (arith, word.sfits)))
