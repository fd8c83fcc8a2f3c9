-- The example of document 01, "Printed runs", with the header of document 02, K1: its input and all that it prints, and the line of a refusal.
use mathlib.Core.Path.{◌≡◌, refl}
use mathlib.Core.List.{[], ◌∷◌}
use lib.IntN.{pos}
use Rattle.words.specs.Words.{is_gap, words, is_digit, decimal, is_number, numbers, reading}
use Rattle.decimals.specs.Decimals.{decimal_digits, signed_digits}
use Rattle.rows.specs.Rows.{line}
use Rattle.lines.specs.Lines.{refused_line, header, printed}

-- "0 2 1 101 4 2 1 2 3" and a line feed.
input : reading (48 ∷ 32 ∷ 50 ∷ 32 ∷ 49 ∷ 32 ∷ 49 ∷ 48 ∷ 49 ∷ 32 ∷ 52 ∷ 32 ∷ 50 ∷ 32 ∷ 49 ∷ 32 ∷ 50 ∷ 32 ∷ 51 ∷ 10 ∷ []) ≡ numbers (0 ∷ 2 ∷ 1 ∷ 101 ∷ 4 ∷ 2 ∷ 1 ∷ 2 ∷ 3 ∷ [])
unfolding reading words is_gap is_number is_digit decimal
input = refl

-- "4 1 0", "4", "0", "1", "2", "3", each on a line.
output : printed 4 (pos 0) (4 ∷ []) (0 ∷ 1 ∷ 2 ∷ 3 ∷ []) ≡ 52 ∷ 32 ∷ 49 ∷ 32 ∷ 48 ∷ 10 ∷ 52 ∷ 10 ∷ 48 ∷ 10 ∷ 49 ∷ 10 ∷ 50 ∷ 10 ∷ 51 ∷ 10 ∷ []
unfolding printed header line decimal_digits signed_digits
output = refl

-- "refused 11 1 1024 3 0 0 0" and a line feed.
refusal : refused_line (11 ∷ 1 ∷ 1024 ∷ 3 ∷ 0 ∷ 0 ∷ 0 ∷ []) ≡ 114 ∷ 101 ∷ 102 ∷ 117 ∷ 115 ∷ 101 ∷ 100 ∷ 32 ∷ 49 ∷ 49 ∷ 32 ∷ 49 ∷ 32 ∷ 49 ∷ 48 ∷ 50 ∷ 52 ∷ 32 ∷ 51 ∷ 32 ∷ 48 ∷ 32 ∷ 48 ∷ 32 ∷ 48 ∷ 10 ∷ []
unfolding refused_line decimal_digits
refusal = refl
