-- The step SPLIT c, i (an expansive replacement, 001): document 01, "Steps by kind" and question 6. Columns count from 0 here.
use Rattle.std.specs.Prelude.{◌≡◌, Bool, cond, ◌&&◌, ℕ, ◌<◌, eqb, ltb}
use mathlib.Core.List.{List, [], ◌∷◌, map, flat_map}
use Rattle.finite.specs.Lists.{from}
use Rattle.counting.specs.Table.{Table, columns, levels_of}
use Rattle.step_tables.specs.Sheet.{from_sources}

-- a column of the next sheet is one of the sheet's columns or one of the table's
pub data SplitSource : Type 0 where
  kept : ℕ → SplitSource
  part : ℕ → SplitSource

-- what stands in the place of column q: the table's columns for column c, and any other column itself
unfoldable pub split_place : ℕ → ℕ → ℕ → List SplitSource
split_place c n q = cond (eqb q c) (map part (from 0 n)) (kept q ∷ [])

-- place by place
unfoldable pub split_sources : ℕ → Table → Table → List SplitSource
split_sources c T S = flat_map (split_place c (columns T)) (from 0 (columns S))

-- the table's columns bring their levels, any other column keeps its own
unfoldable pub split_levels : Table → Table → SplitSource → ℕ
split_levels T S (kept q) = levels_of S q
split_levels T S (part d) = levels_of T d

-- the level of column c is the row of the table, from 0
unfoldable pub split_value : ℕ → Table → Table → ℕ → SplitSource → ℕ
split_value c T S r (kept q) = S.cell r q
split_value c T S r (part d) = T.cell (S.cell r c) d

-- SPLIT c, i, where table i is T and the sheet is S
unfoldable pub split_step : ℕ → Table → Table → Table
split_step c T S = from_sources S.runs (split_levels T S) (split_value c T S) (split_sources c T S)

-- question 6: a column on the sheet, and a table with as many runs as it has levels
pub record SplitFits (c : ℕ) (T S : Table) : Type 0 where
  pub on_sheet : c < columns S
  pub as_many : T.runs ≡ levels_of S c

-- the same as a test
unfoldable pub split_fits : ℕ → Table → Table → Bool
split_fits c T S = ltb c (columns S) && eqb T.runs (levels_of S c)
