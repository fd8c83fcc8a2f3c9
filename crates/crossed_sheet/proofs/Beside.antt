-- h's columns put beside the sheet in the buffers: each run is a part of the run table, and the next sheet finds room.
-- Assumes nothing.
use mathlib.Core.Path.{◌≡◌, sym, ◌∙◌, ap, ap₂}
use mathlib.Core.List.{List, ◌++◌, map, flat_map}
use Prim.Native.Nat.{ℕ, ◌+◌, ◌-◌, ◌*◌, ◌/◌, ◌≤◌, ◌<◌}
use native.Mathlib.Nat.{le_trans, zero-add}
use native.Mathlib.Omega.{arith}
use lib.ListN.{length, get_or, take, drop, length-append}
use Rattle.finite.specs.Lists.{from}
use Rattle.finite.proofs.Fits.{run_end}
use Rattle.buffers.specs.Put.{Put}
use Rattle.buffers.proofs.Puts.{put_front, put_length}
use Rattle.counting.specs.Table.{Table, columns, table_of}
use Rattle.step_tables.specs.Sheet.{SmallEnough}
use Rattle.step_tables.proofs.Lists.{map_get_d}
use Rattle.step_tables.proofs.Sum.{factor_positive}
use Rattle.ingredients.proofs.Parts.{part_length, part_at}
use Rattle.layout.specs.Bytes.{run_of, runs_of, padded, Holds, Zeros, LongEnough, sheet_in}
use Rattle.layout.specs.declared.Size.{Size}
use Rattle.layout.proofs.Bytes.{map_below, flat_map_same, run_length, runs_length}
use Rattle.layout.proofs.Rows.{pieces_room}
use Rattle.layout.proofs.Sheets.{sheet_columns, sheet_cell, cells_few, built_after, built_holds}
use Rattle.crossed_sheet.specs.Crossing.{crossed_run, crossed_sheet, beside_run}
use Rattle.crossed_sheet.proofs.Crossed.{crossed_columns, crossed_runs}

-- a run has the sheet's columns and h's
pub beside_length : (M : ℕ) (H : Table) (bytes : List ℕ) (runs m : ℕ) → runs * m ≤ length bytes → (r : ℕ) → r < runs → length (beside_run M H bytes m r) ≡ m + columns H
unfolding beside_run
beside_length M H bytes runs m within r h =
    length-append (take m (drop (r * m) bytes)) (run_of H (r / M))
    ∙ ap₂ ◌+◌ (part_length bytes (r * m) m (run_end r m h within)) (run_length H (r / M))

-- its first part, as the code takes it, from its first byte up to its end
pub run_part : (bytes : List ℕ) (m r : ℕ) → take (r * m + m - r * m) (drop (r * m) bytes) ≡ take m (drop (r * m) bytes)
run_part bytes m r = let many : r * m + m - r * m ≡ m = omega arith in rw many

pub run_part_length : (bytes : List ℕ) (runs m r : ℕ) → runs * m ≤ length bytes → r < runs → length (take (r * m + m - r * m) (drop (r * m) bytes)) ≡ m
run_part_length bytes runs m r used h = rw (run_part bytes m r) (part_length bytes (r * m) m (run_end r m h used))

-- there is room for the next run
pub run_room : (M : ℕ) (H : Table) (bytes : List ℕ) (runs m r : ℕ) {before buf : List ℕ} {place : ℕ}
    → runs * m ≤ length bytes → r < runs → Put before 0 (flat_map (beside_run M H bytes m) (from 0 r)) buf place
    → runs * (m + columns H) ≤ length before → place + (m + columns H) ≤ length buf
run_room M H bytes runs m r used h put room = pieces_room _ _ _ _ (beside_length M H bytes runs m used) put h room

-- where there is a run, it was made from a row
pub some_row : (runs rows : ℕ) {all r : ℕ} → all ≡ runs * rows → r < all → 0 < rows
some_row runs rows e h = factor_positive runs rows (rw e at h)

-- the sheet of a size that lies in the buffers, and h
module _ (M : ℕ) (H : Table) (table levels : List ℕ) (size : Size) (few : size.columns ≤ length levels) (used : size.runs * size.columns ≤ length table) where
  -- a run of the sheet is a part of the run table
  sheet_run : (r : ℕ) → r < size.runs → run_of (sheet_in table levels size) r ≡ take size.columns (drop (r * size.columns) table)
  unfolding run_of
  sheet_run r h =
      let m = size.columns in
      let within = run_end r m h used in
      let run = take m (drop (r * m) table) in
      ap (λ (n : ℕ). map ((sheet_in table levels size).cell r) (from 0 n)) (sheet_columns table levels size few)
      ∙ map_below ((sheet_in table levels size).cell r) (λ c. get_or run c 0) m (λ c k. sheet_cell table levels size few r c ∙ sym (part_at table (r * m) m within c k))
      ∙ ap (λ (n : ℕ). map (λ c. get_or run c 0) (from 0 n)) (sym (part_length table (r * m) m within))
      ∙ map_get_d run 0

  pub beside_runs : runs_of (crossed_sheet M H (sheet_in table levels size)) ≡ flat_map (beside_run M H table size.columns) (from 0 size.runs)
  unfolding beside_run crossed_run sheet_in table_of
  beside_runs =
      crossed_runs M H (sheet_in table levels size)
      ∙ flat_map_same _ (beside_run M H table size.columns) size.runs (λ r h. ap (λ (xs : List ℕ). xs ++ run_of H (r / M)) (sheet_run r h))

-- what `put_beside` is handed: room, a clear scratch, and the sheet in the buffers, beside which h's columns keep the limits
pub record Handed (M : ℕ) (H : Table) (size : Size) (table levels scratch : List ℕ) : Type 0 where
  pub long : LongEnough table levels scratch
  pub clear : Zeros scratch
  pub holds : Holds (sheet_in table levels size) table levels
  pub columns_most : size.columns ≤ 128
  pub small : SmallEnough (crossed_sheet M H (sheet_in table levels size))

module _ {M : ℕ} {H : Table} {size : Size} {table levels scratch : List ℕ} (handed : Handed M H size table levels scratch) where
  pub levels_few : size.columns ≤ length levels
  levels_few = le_trans handed.columns_most handed.long.levels_long

  runs_few : size.runs ≤ 512
  unfolding crossed_sheet sheet_in table_of
  runs_few = handed.small.runs_most

  pub cells_used : size.runs * size.columns ≤ length table
  cells_used = le_trans (cells_few runs_few handed.columns_most) handed.long.table_long

  pub columns_room : size.columns + columns H ≤ 128
  columns_room = rw (crossed_columns, sheet_columns table levels size levels_few) at handed.small.columns_most

  pub cells_room : size.runs * (size.columns + columns H) ≤ length scratch
  cells_room = le_trans (cells_few runs_few columns_room) handed.long.scratch_long

  -- what is put, and what `settle` makes of it
  module _ {scratch' counts counts' : List ℕ} {built count : ℕ} (runs_put : Put scratch 0 (flat_map (beside_run M H table size.columns) (from 0 size.runs)) scratch' built)
      (levels_put : Put counts 0 (take size.columns levels ++ H.levels) counts' count) where
    sheet_put : Put scratch 0 (runs_of (crossed_sheet M H (sheet_in table levels size))) scratch' built
    sheet_put = rw (beside_runs M H table levels size levels_few cells_used) runs_put

    counts_put : take count counts' ≡ (crossed_sheet M H (sheet_in table levels size)).levels
    unfolding crossed_sheet sheet_in table_of
    counts_put = put_front levels_put

    pub scratch_holds : (built ≤ length scratch') × Zeros (drop built scratch')
    scratch_holds = (omega (arith, runs_put.fits, put_length runs_put), built_after _ handed.clear sheet_put)

    pub next_room : (built ≤ length table) × (length (take count counts') ≤ length levels)
    next_room =
        let small = handed.small in (
          rw (sheet_put.ends, zero-add, runs_length) (le_trans (cells_few small.runs_most small.columns_most) handed.long.table_long),
          rw counts_put (le_trans small.columns_most handed.long.levels_long),
        )

    pub settled : {table' levels' : List ℕ} → length table' ≡ length table → length levels' ≡ length levels
        → table' ≡ padded (length table) (take built scratch') → levels' ≡ padded (length levels) (take count counts')
        → Holds (crossed_sheet M H (sheet_in table levels size)) table' levels'
    settled table_long levels_long table_is levels_are =
        built_holds _ handed.clear sheet_put (length table) (length levels) table_long levels_long table_is levels_are counts_put
