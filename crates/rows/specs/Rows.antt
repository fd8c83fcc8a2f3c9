-- The lines of numbers: document 01, "Printed runs". Text is the list of its bytes.
use Rattle.std.specs.Prelude.{List, [], ◌∷◌, ◌++◌, ℕ}
use Rattle.decimals.specs.Decimals.{decimal_digits}

-- Each number with a space before it.
abbrev pub spaced : List ℕ → List ℕ
spaced [] = []
spaced (n ∷ ns) = (32 ∷ decimal_digits n) ++ spaced ns

-- Numbers with single spaces between.
abbrev pub row : List ℕ → List ℕ
row [] = []
row (n ∷ ns) = decimal_digits n ++ spaced ns

-- "Each line closed by a line feed", byte 10.
unfoldable pub line : List ℕ → List ℕ
line ns = row ns ++ (10 ∷ [])
