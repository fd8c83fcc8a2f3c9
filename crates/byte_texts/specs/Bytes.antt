-- Searches and comparisons of bytes. A text is the list of its bytes.
use Rattle.std.specs.Prelude.{Bool, true, false, cond, ◌&&◌, List, [], ◌∷◌, ℕ, ◌+◌, eqb}

-- The first place, from 0, that has a byte, or the length where none has it.
unfoldable pub first_place : ℕ → List ℕ → ℕ
first_place byte [] = 0
first_place byte (b ∷ bs) = cond (eqb b byte) 0 (1 + first_place byte bs)

-- Whether two texts are the same, byte for byte and to their ends.
unfoldable pub same_bytes : List ℕ → List ℕ → Bool
same_bytes [] [] = true
same_bytes [] (b ∷ bs) = false
same_bytes (a ∷ bs) [] = false
same_bytes (a ∷ bs) (c ∷ cs) = eqb a c && same_bytes bs cs

-- Whether all bytes are zero.
unfoldable pub all_zero : List ℕ → Bool
all_zero [] = true
all_zero (b ∷ bs) = eqb b 0 && all_zero bs
