-- Arguments that write a price, and some that write none, byte by byte.
-- Assumes nothing.
use mathlib.Core.Path.{◌≡◌, refl}
use mathlib.Core.List.{[], ◌∷◌}
use Rattle.std.specs.Prelude.{Some, None}
use Rattle.words.specs.Words.{is_digit, decimal}
use Rattle.price_arguments.specs.PriceArguments.{is_price, price_in}

-- "0"
nought : price_in (48 ∷ []) ≡ Some 0
unfolding price_in is_price is_digit decimal
nought = refl

-- "00012"
leading_zeros : price_in (48 ∷ 48 ∷ 48 ∷ 49 ∷ 50 ∷ []) ≡ Some 12
unfolding price_in is_price is_digit decimal
leading_zeros = refl

-- "4294967295", the largest
largest : price_in (52 ∷ 50 ∷ 57 ∷ 52 ∷ 57 ∷ 54 ∷ 55 ∷ 50 ∷ 57 ∷ 53 ∷ []) ≡ Some 4294967295
unfolding price_in is_price is_digit decimal
largest = refl

-- "4294967296"
one_more : price_in (52 ∷ 50 ∷ 57 ∷ 52 ∷ 57 ∷ 54 ∷ 55 ∷ 50 ∷ 57 ∷ 54 ∷ []) ≡ None
unfolding price_in is_price is_digit decimal
one_more = refl

-- ""
empty : price_in [] ≡ None
unfolding price_in is_price is_digit decimal
empty = refl

-- "+5", "1.5" and "12 "
plus : price_in (43 ∷ 53 ∷ []) ≡ None
unfolding price_in is_price is_digit decimal
plus = refl

point : price_in (49 ∷ 46 ∷ 53 ∷ []) ≡ None
unfolding price_in is_price is_digit decimal
point = refl

space : price_in (49 ∷ 50 ∷ 32 ∷ []) ≡ None
unfolding price_in is_price is_digit decimal
space = refl
