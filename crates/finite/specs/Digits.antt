-- Numbers written base s, the first digit highest: the coefficient lists of question 4 and the tuples and factor values of a generator
-- (document 01).
use Rattle.std.specs.Prelude.{List, [], ◌∷◌, ℕ, zero, suc, ◌+◌, ◌*◌, ◌/◌, ◌%◌, ◌^◌, length}

-- the last n digits of v base s
unfoldable pub digits : ℕ → ℕ → ℕ → List ℕ
digits s zero v = []
digits s (suc n) v = v / s ^ n % s ∷ digits s n v

-- the number that a list of digits base s stands for
unfoldable pub numeral : ℕ → List ℕ → ℕ
numeral s [] = 0
numeral s (x ∷ xs) = x * s ^ length xs + numeral s xs

-- the number whose n digits base s are f 0, f 1, .., by Horner's rule
unfoldable pub horner : ℕ → (ℕ → ℕ) → ℕ → ℕ
horner s f zero = 0
horner s f (suc n) = horner s f n * s + f n
