-- What the argument of the program of run sheets asks for: document 02, K3, after document 01, "Printed runs". Text is the list of its bytes.
use Rattle.std.specs.Prelude.{List, [], ◌∷◌, ℕ}
use Rattle.words.specs.Words.{Reading, numbers, refused, reading}
use Rattle.page_argument.specs.declared.Asked.{Asked}
use Rattle.page_argument.specs.declared.Asked.TheVariants.{One}

-- The page that an argument asks for: its number, where it is one decimal number up to 65,535, as the words of an order are; any other argument asks for
-- page 0, which no sheet has.
abbrev pub sole_number : List ℕ → ℕ
sole_number [] = 0
sole_number (n ∷ []) = n
sole_number (n ∷ m ∷ ns) = 0

abbrev pub number_read : Reading → ℕ
number_read (numbers ns) = sole_number ns
number_read (refused place) = 0

unfoldable pub asked_by : List ℕ → Asked
asked_by argument = One (number_read (reading argument))
