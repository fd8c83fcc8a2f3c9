-- The bytes that hold a table: document 01, after "The questions". "Filled: N, m, the table run by run from byte 0, the m level counts; all other
-- bytes of both buffers are zero, and the scratch is zero after every call."
use Rattle.std.specs.Prelude.{◌≡◌, ℕ, length, take}
use mathlib.Core.List.{List, map, flat_map}
use Rattle.finite.specs.Lists.{from}
use Rattle.counting.specs.Table.{Table, columns, table_of}
use Rattle.sheets.specs.Buffers.{Lengths, Suffices}
use Rattle.layout.specs.declared.Size.{Size}
pub use Rattle.pieces.specs.Padded.{zeros}
unfoldable pub use Rattle.pieces.specs.Padded.{padded, Zeros}

-- run r, level by level
unfoldable pub run_of : Table → ℕ → List ℕ
run_of S r = map (S.cell r) (from 0 (columns S))

-- run by run
unfoldable pub runs_of : Table → List ℕ
runs_of S = flat_map (run_of S) (from 0 S.runs)

-- the run table and the level list hold the table S and nothing else
pub record Holds (S : Table) (table levels : List ℕ) : Type 0 where
  pub runs_first : table ≡ padded (length table) (runs_of S)
  pub levels_first : levels ≡ padded (length levels) S.levels

-- the lengths of the three buffers
abbrev pub lengths_of : List ℕ → List ℕ → List ℕ → Lengths
lengths_of table levels scratch = record { table = length table; levels = length levels; scratch = length scratch }

-- question 1
abbrev pub LongEnough : List ℕ → List ℕ → List ℕ → Type 0
LongEnough table levels scratch = Suffices (lengths_of table levels scratch)

-- the sheet of a size that lies in the run table and the level list
unfoldable pub sheet_in : List ℕ → List ℕ → Size → Table
sheet_in table levels size = table_of table (take size.columns levels) size.runs
