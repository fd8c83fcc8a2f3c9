-- What the text of an order comes to: document 01, "Printed runs". A text is the list of its bytes.
use Rattle.std.specs.Prelude.{Bool, true, cond, ◌&&◌, ◌||◌, ℕ, ◌+◌, ◌*◌, ◌-◌, eqb, leb, ltb}
use mathlib.Core.List.{List, [], ◌∷◌, foldl}

-- "Words are parted by spaces, tabs or line feeds": bytes 32, 9 and 10.
unfoldable pub is_gap : ℕ → Bool
is_gap byte = eqb byte 32 || eqb byte 9 || eqb byte 10

-- One byte more in front of the first part.
abbrev pub in_front : ℕ → List (List ℕ) → List (List ℕ)
in_front byte [] = (byte ∷ []) ∷ []
in_front byte (part ∷ parts) = (byte ∷ part) ∷ parts

-- The parts of a text between its gaps; a part between two gaps in a row is empty.
abbrev pub cut : List ℕ → List (List ℕ)
cut [] = [] ∷ []
cut (byte ∷ bytes) = cond (is_gap byte) ([] ∷ cut bytes) (in_front byte (cut bytes))

-- The parts that are not empty.
abbrev pub non_empty : List (List ℕ) → List (List ℕ)
non_empty [] = []
non_empty ([] ∷ parts) = non_empty parts
non_empty ((byte ∷ part) ∷ parts) = (byte ∷ part) ∷ non_empty parts

-- The words of a text, in their order.
unfoldable pub words : List ℕ → List (List ℕ)
words text = non_empty (cut text)

-- The bytes 48 to 57 are the digits 0 to 9.
unfoldable pub is_digit : ℕ → Bool
is_digit byte = leb 48 byte && leb byte 57

abbrev pub all_digits : List ℕ → Bool
all_digits [] = true
all_digits (byte ∷ bytes) = is_digit byte && all_digits bytes

-- The number that a word of digits writes, "leading zeros are allowed".
unfoldable pub decimal : List ℕ → ℕ
decimal word = foldl (λ n byte. n * 10 + (byte - 48)) 0 word

-- A word is a "decimal number up to 65,535".
unfoldable pub is_number : List ℕ → Bool
is_number word = all_digits word && leb (decimal word) 65535

-- The numbers of a text, or the place of the word, from 0, at which it is refused as 2.
pub data Reading : Type 0 where
  numbers : List ℕ → Reading
  refused : ℕ → Reading

abbrev pub prefixed : ℕ → Reading → Reading
prefixed n (numbers ns) = numbers (n ∷ ns)
prefixed n (refused place) = refused place

-- "The first word that is no decimal number up to 65,535, or else the 32,769th word, whichever comes earlier, is refused": the words from a
-- place on. The 32,769th word stands at place 32,768.
abbrev pub read_words : ℕ → List (List ℕ) → Reading
read_words place [] = numbers []
read_words place (word ∷ rest) =
    cond (ltb place 32768 && is_number word) (prefixed (decimal word) (read_words (place + 1) rest)) (refused place)

unfoldable pub reading : List ℕ → Reading
reading text = read_words 0 (words text)
