-- Bytes that are put into a lent buffer.
use Rattle.std.specs.Prelude.{◌≡◌, List, ◌++◌, ℕ, ◌+◌, ◌≤◌, ◌<◌, length, get_or, take, drop}

-- A buffer before and after some bytes were put into it from a place on: all else stays, and the end is the place after them.
pub record Put (before : List ℕ) (at : ℕ) (bytes : List ℕ) (after : List ℕ) (end : ℕ) : Type 0 where
  pub ends : end ≡ at + length bytes
  pub fits : end ≤ length before
  pub holds : after ≡ take at before ++ bytes ++ drop end before

-- every number of a list fits in a byte
unfoldable pub Bytes : List ℕ → Type 0
Bytes xs = (k : ℕ) → k < length xs → get_or xs k 0 < 256
