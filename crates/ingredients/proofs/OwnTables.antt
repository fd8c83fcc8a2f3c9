-- The table that stands in the list: its level counts and levels are the numbers at their places, which lie within the list and fit in bytes.
-- Assumes nothing.
use mathlib.Core.Path.{◌≡◌}
use mathlib.Core.List.{List}
use Prim.Native.Nat.{ℕ, ◌+◌, ◌*◌, ◌<◌}
use native.Mathlib.Omega.{arith}
use lib.Arith.{digits_lt}
use lib.ListN.{length, get_or}
use Rattle.counting.specs.Table.{columns, levels_of, table_of}
use Rattle.ingredients.specs.Named.{table_in, Legible}
use Rattle.ingredients.specs.declared.named.NamedTable.TheVariants.{Own}
use Rattle.ingredients.proofs.Parts.{part_length, part_at, part_byte}

module _ (list : List ℕ) (rows width levels_at entries_at : ℕ) (legible : Legible list (Own rows width levels_at entries_at)) where
  pub own_columns : columns (table_in list (Own rows width levels_at entries_at)) ≡ width
  unfolding table_in table_of Legible
  own_columns = part_length list levels_at width legible.0

  module _ (c : ℕ) (h : c < columns (table_in list (Own rows width levels_at entries_at))) where
    pub own_column : c < width
    own_column = rw own_columns at h

    pub level_place : levels_at + c < length list
    unfolding Legible
    level_place = let below = own_column in let within = legible.0 in omega arith

    pub level_byte : get_or list (levels_at + c) 0 < 256
    unfolding Legible
    level_byte = part_byte list levels_at width legible.0 legible.2 c own_column

    pub level_read : get_or list (levels_at + c) 0 ≡ levels_of (table_in list (Own rows width levels_at entries_at)) c
    unfolding table_in table_of Legible
    level_read = rw (part_at list levels_at width legible.0 c own_column)

    module _ (r : ℕ) (hr : r < (table_in list (Own rows width levels_at entries_at)).runs) where
      cell_below : r * width + c < rows * width
      unfolding table_in table_of
      cell_below = digits_lt hr own_column

      pub cell_place : entries_at + r * width + c < length list
      unfolding Legible
      cell_place = let below = cell_below in let within = legible.1 in omega arith

      reordered : entries_at + (r * width + c) ≡ entries_at + r * width + c
      reordered = omega arith

      pub cell_byte : get_or list (entries_at + r * width + c) 0 < 256
      unfolding Legible
      cell_byte = rw reordered at (part_byte list entries_at (rows * width) legible.1 legible.3 (r * width + c) cell_below)

      pub cell_read : get_or list (entries_at + r * width + c) 0 ≡ (table_in list (Own rows width levels_at entries_at)).cell r c
      unfolding table_in table_of Legible
      cell_read = rw (own_columns, part_at list entries_at (rows * width) legible.1 (r * width + c) cell_below, reordered)
