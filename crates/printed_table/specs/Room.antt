-- A table that is printed, and the room for it.
use Rattle.std.specs.Prelude.{List, ℕ, ◌*◌, ◌≤◌, length}

-- Room for any answer: 514 lines (the header, the level counts and 512 runs) of at most 513 bytes.
abbrev pub answer_room : ℕ
answer_room = 263682

-- A table within the limits that lies in its buffers.
pub record TableInBuffers (runs columns : ℕ) (levels cells : List ℕ) : Type 0 where
  pub few : runs ≤ 512
  pub narrow : columns ≤ 128
  pub levels_there : columns ≤ length levels
  pub cells_there : runs * columns ≤ length cells
