-- What is read from standard input. Nothing can say which bytes a read gives, so this says that there is such a text.
use Rattle.std.specs.Prelude.{◌≡◌, ℕ}
use Rattle.std.specs.declared.ops.ControlFlow.{ControlFlow}
use Rattle.std.specs.declared.ops.ControlFlow.TheVariants.{Continue, Break}
use mathlib.Core.List.{List, [], ◌∷◌, ◌++◌, flatten}
use Rattle.words.specs.Words.{refused, reading}
use Rattle.words.specs.Scanner.{Scanned, refused_at, Progress, advanced, finished, scanned_reading, Ended}
use Rattle.words.specs.declared.Scan.{Scan}
use Rattle.words.specs.declared.Scan.TheVariants.{Between, Inside, Failed}

-- What comes after a read: another one, from where the scanner stands, or the answer.
abbrev pub Next : Type 0
Next = ControlFlow Scanned Scan

-- A state that the scanner has reached asks for another read, or, where a word is refused, for none.
abbrev pub onward : Scan → Next
onward (Between count) = Continue (Between count)
onward (Inside count value) = Continue (Inside count value)
onward (Failed place) = Break (refused_at place)

-- After a read that gave these bytes. Where it gave none, the text has ended.
unfoldable pub after_read : Progress → List ℕ → Next × List ℕ
after_read p [] = (Break (finished p).0, (finished p).1)
after_read p (byte ∷ bytes) = (onward (advanced p (byte ∷ bytes)).0, (advanced p (byte ∷ bytes)).1)

-- What the reads gave, one after the other. No word was refused before the last of them: each was called for.
pub record Input : Type 0 where
  pub earlier : List (List ℕ)
  pub last : List ℕ
  pub called_for : (place : ℕ) → reading (flatten earlier) ≡ refused place → ⊥

abbrev pub text : Input → List ℕ
text input = flatten input.earlier ++ input.last

-- The scanner's answer, and its list, are what the text that was read comes to; where it is refused, so it is whatever follows it.
pub record ScannedInput (answer : Scanned) (list : List ℕ) : Type 0 where
  pub ended : Ended 32768 answer list
  pub input : Input
  pub reads : scanned_reading (answer, list) ≡ reading (text input)
  pub suffices : (place : ℕ) → answer ≡ refused_at place → (rest : List ℕ) → reading (text input ++ rest) ≡ refused place
