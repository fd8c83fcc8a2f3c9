-- Laws of the definitions in specs/Words.antt: the words of a text that begins with a word, and what one byte more makes of a word.
use mathlib.Core.Path.{◌≡◌, refl, sym, ap}
use mathlib.Core.Bool.{Bool, true, false, ◌&&◌, and_assoc, and-true, and-false, true≢false}
use mathlib.Core.List.{List, [], ◌∷◌, ◌++◌, foldl-append}
use Prim.Native.Nat.{ℕ, ◌+◌, ◌*◌, ◌-◌}
use native.Mathlib.Omega.{arith}
use borrow.Author.Tests.{lt-leb, leb-false}
use lib.Dec.{leb}
use Rattle.words.specs.Words.{is_gap, cut, non_empty, words, is_digit, all_digits, decimal, is_number}

-- No byte of a word is a gap.
abbrev pub Solid : List ℕ → Type 0
Solid [] = Unit {0}
Solid (byte ∷ bytes) = (is_gap byte ≡ false) × Solid bytes

pub solid_snoc : (word : List ℕ) (byte : ℕ) → Solid word → is_gap byte ≡ false → Solid (word ++ (byte ∷ []))
solid_snoc [] byte s e = (e, tt)
solid_snoc (b ∷ bs) byte s e = (s.0, solid_snoc bs byte s.1 e)

-- A word is one part, and a gap after it ends the part.
cut_word : (word : List ℕ) → Solid word → cut word ≡ word ∷ []
cut_word [] s = refl
cut_word (b ∷ bs) s = rw (s.0, cut_word bs s.1)

cut_gap : (word : List ℕ) (byte : ℕ) (bytes : List ℕ) → Solid word → is_gap byte ≡ true → cut (word ++ byte ∷ bytes) ≡ word ∷ cut bytes
cut_gap [] byte bytes s e = rw e
cut_gap (b ∷ bs) byte bytes s e = rw (s.0, cut_gap bs byte bytes s.1 e)

module _ (b : ℕ) (bs : List ℕ) (s : Solid (b ∷ bs)) where
  pub words_last : words (b ∷ bs) ≡ (b ∷ bs) ∷ []
  unfolding words
  words_last = ap non_empty (cut_word (b ∷ bs) s)

  pub words_gap : (byte : ℕ) (bytes : List ℕ) → is_gap byte ≡ true → words ((b ∷ bs) ++ byte ∷ bytes) ≡ (b ∷ bs) ∷ words bytes
  unfolding words
  words_gap byte bytes e = ap non_empty (cut_gap (b ∷ bs) byte bytes s e)

pub words_none : words [] ≡ []
unfolding words
words_none = refl

pub words_skip : (byte : ℕ) (bytes : List ℕ) → is_gap byte ≡ true → words (byte ∷ bytes) ≡ words bytes
unfolding words
words_skip byte bytes e = ap non_empty (cut_gap [] byte bytes tt e)

-- One byte more in a word.
pub decimal_snoc : (word : List ℕ) (byte : ℕ) → decimal (word ++ (byte ∷ [])) ≡ decimal word * 10 + (byte - 48)
unfolding decimal
decimal_snoc word byte = foldl-append (λ n b. n * 10 + (b - 48)) 0 word (byte ∷ [])

pub digits_snoc : (word : List ℕ) (byte : ℕ) → all_digits (word ++ (byte ∷ [])) ≡ (all_digits word && is_digit byte)
digits_snoc [] byte = and-true (is_digit byte)
digits_snoc (b ∷ bs) byte = rw (digits_snoc bs byte) (sym (and_assoc (is_digit b) (all_digits bs) (is_digit byte)))

and_split : (a b : Bool) → (a && b) ≡ true → a ≡ true
and_split true b e = refl
and_split false b e = e

-- Before its first byte, a word is as good as a number.
pub number_none : is_number [] ≡ true
unfolding is_number decimal
number_none = refl

-- A word that is a number stays one where the byte is a digit and the value small enough.
pub number_snoc : (word : List ℕ) (byte : ℕ) → is_number word ≡ true → is_number (word ++ (byte ∷ [])) ≡ (is_digit byte && leb (decimal word * 10 + (byte - 48)) 65535)
unfolding is_number
number_snoc word byte e = rw (digits_snoc, decimal_snoc, and_split (all_digits word) (leb (decimal word) 65535) e)

-- A word that is no number is none with a byte more.
pub bad_snoc : (word : List ℕ) (byte : ℕ) → is_number word ≡ false → is_number (word ++ (byte ∷ [])) ≡ false
unfolding is_number
bad_snoc word byte = rw (digits_snoc, decimal_snoc) (go (all_digits word) (leb (decimal word) 65535) refl)
  where
    go : (d l : Bool) → leb (decimal word) 65535 ≡ l → (d && l) ≡ false → (d && is_digit byte && leb (decimal word * 10 + (byte - 48)) 65535) ≡ false
    go false l e f = refl
    go true true e f = absurd (true≢false f)
    go true false e f =
        rw (lt-leb (decimal word * 10 + (byte - 48)) 65535 (omega (arith, leb-false (decimal word) 65535 e)))
        (and-false (is_digit byte))
