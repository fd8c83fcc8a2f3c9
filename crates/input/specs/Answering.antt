-- What is answered to standard input.
use Rattle.std.specs.Prelude.{◌≡◌, List, ◌++◌, ℕ}
use Rattle.words.specs.Words.{Reading, refused, reading}
use Rattle.input.specs.Input.{Input, text}
use Rattle.report.specs.Report.{reading_printed}

-- These bytes are what is printed of the text that was read, where this is printed of what a text reads as; where it is refused, so it is whatever follows it.
pub record AnsweringBy (printing : Reading → List ℕ) (bytes : List ℕ) : Type 0 where
  pub input : Input
  pub printed : bytes ≡ printing (reading (text input))
  pub suffices : (place : ℕ) → reading (text input) ≡ refused place → (rest : List ℕ) → bytes ≡ printing (reading (text input ++ rest))

-- They are what document 01 has printed for it.
abbrev pub Answering : List ℕ → Type 0
Answering = AnsweringBy reading_printed
