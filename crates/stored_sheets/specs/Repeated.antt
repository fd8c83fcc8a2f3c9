-- Bytes that are some numbers of a list, over and over.
use Rattle.std.specs.Prelude.{List, ℕ, zero, suc, ◌+◌, ◌%◌, get_or}

-- What is at place i of a buffer that was filled with so many numbers of a list, from a start on: one of them, modulo 256. With none the buffer holds what it held.
unfoldable pub repeated : List ℕ → ℕ → ℕ → List ℕ → ℕ → ℕ
repeated list start zero held i = get_or held i 0
repeated list start (suc more) held i = get_or list (start + i % suc more) 0 % 256
