-- The sheet and how a step makes the next one: document 01, "The order". The sheet is the table in hand, a `Table`.
-- A step says from shapes alone where each column of the next sheet comes from; the level counts and the cells follow from that.
use Rattle.std.specs.Prelude.{◌≡◌, Bool, ◌&&◌, List, map, ℕ, ◌≤◌, ◌<◌, leb, get_or}
use Rattle.counting.specs.Table.{Table, columns, levels_of, InRange, Even}

-- the table whose columns come from the sources of a list, in that order: a source has a level count, and a level in each run
unfoldable pub from_sources : {A : Type 0} → ℕ → (A → ℕ) → (ℕ → A → ℕ) → List A → Table
from_sources runs levels value sources =
    record { runs = runs; levels = map levels sources; cell = λ r c. get_or (map (value r) sources) c 0 }

-- an orthogonal array of strength g: even, with every entry in range
pub record OrthogonalArray (g : ℕ) (T : Table) : Type 0 where
  pub even : Even g T
  pub in_range : InRange T

-- every level count meets P
unfoldable pub AllLevels : (ℕ → Type 0) → Table → Type 0
AllLevels P T = (c : ℕ) → c < columns T → P (levels_of T c)

-- 01's limits of a level count
abbrev pub LevelCount : ℕ → Type 0
LevelCount s = (2 ≤ s) × (s ≤ 64)

-- a sheet as every step leaves it: an orthogonal array of strength two with 2 to 64 levels in a column
pub record Sound (S : Table) : Type 0 where
  pub array : OrthogonalArray 2 S
  pub levels_within : AllLevels LevelCount S

-- two tables that look the same: one shape, and one level in each run and column
pub record Agree (A B : Table) : Type 0 where
  pub same_runs : A.runs ≡ B.runs
  pub same_levels : A.levels ≡ B.levels
  pub same_cells : (r c : ℕ) → r < A.runs → c < columns A → A.cell r c ≡ B.cell r c

-- TAKE i: the sheet is table i
unfoldable pub take_step : Table → Table
take_step T = T

-- question 8: at most 512 runs and 128 columns
pub record SmallEnough (S : Table) : Type 0 where
  pub runs_most : S.runs ≤ 512
  pub columns_most : columns S ≤ 128

-- the same as a test
unfoldable pub small_enough : Table → Bool
small_enough S = leb S.runs 512 && leb (columns S) 128
