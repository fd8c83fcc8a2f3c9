-- The table that a list writes stands in it by its places: the level counts from place 3 on, and the entries behind them.
-- Assumes nothing.
use mathlib.Core.Path.{◌≡◌, sym, subst}
use mathlib.Core.List.{List, [], ◌∷◌, ◌++◌}
use Prim.Native.Nat.{ℕ, ◌+◌, ◌%◌, ◌<◌}
use native.Mathlib.Nat.{mod-lt}
use native.Mathlib.Omega.{arith}
use lib.ListN.{length, length-append}
use Rattle.order.specs.Order.{Between}
use Rattle.order.proofs.Segment.{Segment, segment_whole, part_left, part_right, segment_numbers, segment_at, segment_fits}
use Rattle.counting.specs.Table.{table_of}
use Rattle.sheets.proofs.Ingredients.{all_get_d}
use Rattle.ingredients.specs.Named.{table_in}
use Rattle.ingredients.specs.Standing.{TableStands}
use Rattle.ingredients.specs.declared.named.NamedTable.TheVariants.{Own}
use Rattle.written_table.specs.CheckPromise.{Writes}

module _ {list : List ℕ} {rows : ℕ} {levels entries : List ℕ} (w : Writes list rows levels entries) where
  whole : Segment list 0 (1 ∷ rows ∷ length levels ∷ levels ++ entries) (length list)
  whole = subst (λ u. Segment list 0 u (length list)) (sym w.same) (segment_whole list)

  body : Segment list 3 (levels ++ entries) (length list)
  body = part_right (1 ∷ rows ∷ length levels ∷ []) (levels ++ entries) whole

  levels_there : Segment list 3 levels (3 + length levels)
  levels_there = part_left levels entries body

  entries_there : Segment list (3 + length levels) entries (length list)
  entries_there = part_right levels entries body

  pub table_stands : TableStands list rows (length levels) 3 (3 + length levels)
  table_stands =
      let fits = segment_fits whole (omega arith) in
      let size = w.limits.3 in
      record {
        short = w.short;
        rows_limits = w.limits.0;
        columns_limits = w.limits.1;
        levels_within = omega (arith, length-append levels entries);
        entries_within = omega (arith, length-append levels entries, size);
        level_limits = λ c h. rw (segment_at levels_there c h) (all_get_d (Between 2 64) levels w.limits.2 c 0 h);
        entry_below = λ q h.
            let below : q < length entries = rw size h in
            rw (segment_at entries_there q below, segment_at levels_there (q % length levels) (mod-lt q w.limits.1.0)) (w.in_range q below);
      }

  -- and what stands there is the table
  pub table_there : table_in list (Own rows (length levels) 3 (3 + length levels)) ≡ table_of entries levels rows
  unfolding table_in
  table_there = rw (segment_numbers levels_there, ← w.limits.3, segment_numbers entries_there)
