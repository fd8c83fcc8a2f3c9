-- The decimal digits of a number, as the list of their bytes (document 01, "Printed runs"), and those of a signed one (document 02, K1).
use Rattle.std.specs.Prelude.{cond, List, [], ◌∷◌, ◌++◌, ℕ, zero, suc, ◌+◌, ◌/◌, ◌%◌, ltb, ℤ, pos, negsuc}

-- The decimal digits of n, of which there are at most so many after the first.
abbrev pub digits_within : ℕ → ℕ → List ℕ
digits_within zero n = (48 + n) ∷ []
digits_within (suc most) n =
    let more = digits_within most (n / 10) ++ ((48 + n % 10) ∷ []) in
    cond (ltb n 10) ((48 + n) ∷ []) more

-- The decimal digits of n, with no leading zero; 0 is "0". Digit d is the byte 48 + d.
unfoldable pub decimal_digits : ℕ → List ℕ
decimal_digits n = digits_within n n

-- The same of a signed number: a negative one has its sign before its digits. "-" is the byte 45, and `negsuc n` is -(n + 1).
unfoldable pub signed_digits : ℤ → List ℕ
signed_digits (pos n) = decimal_digits n
signed_digits (negsuc n) = 45 ∷ decimal_digits (suc n)
