-- An ingredient that stands in a list by its places, after questions 2 and 3: its numbers lie within the list, which is no longer than 32,768, and keep
-- the limits of document 01, "The order", and every entry is below its levels, p or s.
use Rattle.std.specs.Prelude.{◌≡◌, List, ℕ, ◌+◌, ◌*◌, ◌%◌, ◌≤◌, ◌<◌, length, get_or, take, drop}
use Rattle.order.specs.Order.{total, Between, GeneratorField, FactorWidth}

-- a table: its level counts, one for each column, and its entries run by run
pub record TableStands (list : List ℕ) (rows columns levels_at entries_at : ℕ) : Type 0 where
  pub short : length list ≤ 32768
  pub rows_limits : Between 1 512 rows
  pub columns_limits : Between 1 128 columns
  pub levels_within : levels_at + columns ≤ length list
  pub entries_within : entries_at + rows * columns ≤ length list
  pub level_limits : (c : ℕ) → c < columns → Between 2 64 (get_or list (levels_at + c) 0)
  pub entry_below : (q : ℕ) → q < rows * columns → get_or list (entries_at + q) 0 < get_or list (levels_at + q % columns) 0

-- a difference matrix: its entries row by row
pub record MatrixStands (list : List ℕ) (rows columns p entries_at : ℕ) : Type 0 where
  pub short : length list ≤ 32768
  pub rows_limits : Between 1 512 rows
  pub columns_limits : Between 1 128 columns
  pub modulus_limits : Between 2 64 p
  pub entries_within : entries_at + rows * columns ≤ length list
  pub entry_below : (q : ℕ) → q < rows * columns → get_or list (entries_at + q) 0 < p

-- a generator matrix: the widths of its factors, which add up to the length of a row, and its entries row by row
pub record GeneratorStands (list : List ℕ) (t n s widths_at width entries_at : ℕ) : Type 0 where
  pub short : length list ≤ 32768
  pub coordinates_limits : Between 1 9 t
  pub factors_limits : Between 1 128 n
  pub size_limits : GeneratorField t s
  pub widths_within : widths_at + n ≤ length list
  pub entries_within : entries_at + t * width ≤ length list
  pub width_total : width ≡ total (take n (drop widths_at list))
  pub width_limits : (i : ℕ) → i < n → FactorWidth s (get_or list (widths_at + i) 0)
  pub entry_below : (q : ℕ) → q < t * width → get_or list (entries_at + q) 0 < s
