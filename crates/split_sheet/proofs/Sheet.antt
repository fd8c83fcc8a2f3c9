-- SPLIT on the sheet in hand, once its parts fit: every level of the column is a row of the table, and the next sheet finds room.
-- Assumes nothing.
use mathlib.Core.Path.{◌≡◌, sym, ◌∙◌, ap}
use mathlib.Core.List.{List}
use Prim.Native.Nat.{ℕ, ◌+◌, ◌-◌, ◌*◌, ◌≤◌, ◌<◌}
use native.Mathlib.Nat.{le_trans}
use native.Mathlib.Omega.{arith}
use lib.ListN.{length, get_or, take, drop, length-take}
use Rattle.buffers.specs.Put.{Put}
use Rattle.buffers.proofs.Puts.{put_front, put_length}
use Rattle.counting.specs.Table.{Table, columns, table_of, InRange}
use Rattle.step_tables.specs.Sheet.{SmallEnough, from_sources}
use Rattle.step_tables.specs.Split.{SplitFits, split_step}
use Rattle.step_tables.proofs.Split.{split_columns}
use Rattle.layout.specs.Bytes.{runs_of, padded, Holds, Zeros, sheet_in}
use Rattle.layout.specs.Step.{Ready}
use Rattle.split_sheet.specs.Splitting.{give_way, split_runs}
use Rattle.layout.specs.declared.Size.{Size}
use Rattle.layout.proofs.Bytes.{runs_length}
use Rattle.layout.proofs.Sheets.{padded_length, sheet_cell, cells_few, built_after, built_holds, ready_few, ready_runs, ready_columns, ready_used}
use Rattle.split_sheet.proofs.Bytes.{split_levels_lem, split_runs_lem}

pub take_few : (n : ℕ) (xs : List ℕ) → length (take n xs) ≤ n
take_few n xs = omega (arith, length-take n xs)

module _ {list : List ℕ} {size : Size} {table levels scratch : List ℕ} (ready : Ready list size table levels scratch) (c : ℕ) (U : Table) (fits : SplitFits c U (sheet_in table levels size)) where
  pub on_sheet : c < size.columns
  on_sheet = rw (ready_columns ready) at fits.on_sheet

  pub next_columns : columns (split_step c U (sheet_in table levels size)) ≡ size.columns - 1 + columns U
  next_columns = let many = split_columns c U (sheet_in table levels size) fits in omega (arith, on_sheet, ready_columns ready)

  pub row_there : (r : ℕ) → r < size.runs → get_or table (r * size.columns + c) 0 < U.runs
  unfolding InRange sheet_in table_of
  row_there r h =
      rw (sym (sheet_cell table levels size (ready_few ready) r c), fits.as_many) (ready.sound.array.in_range r c h fits.on_sheet)

  pub next_levels : (split_step c U (sheet_in table levels size)).levels ≡ give_way c (take size.columns levels) U.levels
  unfolding sheet_in table_of
  next_levels = split_levels_lem c U (sheet_in table levels size) fits.on_sheet

  pub next_runs : runs_of (split_step c U (sheet_in table levels size)) ≡ split_runs c U table size.columns size.runs
  next_runs = split_runs_lem c U table levels size (ready_few ready) (ready_used ready) on_sheet

  module _ (small : SmallEnough (split_step c U (sheet_in table levels size))) where
    pub columns_room : size.columns - 1 + columns U ≤ 128
    columns_room = rw next_columns at small.columns_most

    pub cells_room : size.runs * (size.columns - 1 + columns U) ≤ 65536
    cells_room = cells_few (ready_runs ready) columns_room

    -- what was put, and what `settle` makes of it
    module _ {scratch' counts counts' : List ℕ} {built count : ℕ} (runs_put : Put scratch 0 (split_runs c U table size.columns size.runs) scratch' built) (levels_put : Put counts 0 (give_way c (take size.columns levels) U.levels) counts' count) where
      sheet_put : Put scratch 0 (runs_of (split_step c U (sheet_in table levels size))) scratch' built
      sheet_put = rw next_runs runs_put

      pub built_room : built ≤ 65536
      unfolding split_step from_sources sheet_in table_of
      built_room =
          let S = split_step c U (sheet_in table levels size) in
          le_trans (omega (arith, sheet_put.ends, runs_length S)) (cells_few (ready_runs ready) small.columns_most)

      pub built_within : built ≤ length scratch'
      built_within = omega (arith, runs_put.fits, put_length runs_put)

      pub count_room : count ≤ 128
      count_room = omega (arith, levels_put.ends, ap length next_levels, small.columns_most)

      pub scratch_after : Zeros (drop built scratch')
      scratch_after = built_after _ ready.scratch_clear sheet_put

      pub settled : {table' levels' : List ℕ} → table' ≡ padded (length table) (take built scratch') → levels' ≡ padded (length levels) (take count counts') → Holds (split_step c U (sheet_in table levels size)) table' levels'
      settled table_is levels_are =
          built_holds _ ready.scratch_clear sheet_put (length table) (length levels)
          (ap length table_is ∙ padded_length _ _ (le_trans (take_few built scratch') (le_trans built_room ready.long.table_long)))
          (ap length levels_are ∙ padded_length _ _ (le_trans (take_few count counts') (le_trans count_room ready.long.levels_long)))
          table_is levels_are (put_front levels_put ∙ sym next_levels)
