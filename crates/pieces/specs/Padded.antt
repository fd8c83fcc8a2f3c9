-- Buffers with zeros after what they hold: document 01, after "The questions": "all other bytes of both buffers are zero".
use Rattle.std.specs.Prelude.{◌≡◌, List, ◌++◌, ℕ, ◌-◌, length, replicate}

-- n zeros
abbrev pub zeros : ℕ → List ℕ
zeros n = replicate n 0

-- a buffer of n bytes with some at its front and zeros after them
unfoldable pub padded : ℕ → List ℕ → List ℕ
padded n bytes = bytes ++ zeros (n - length bytes)

-- zeros throughout
unfoldable pub Zeros : List ℕ → Type 0
Zeros bytes = bytes ≡ zeros (length bytes)
