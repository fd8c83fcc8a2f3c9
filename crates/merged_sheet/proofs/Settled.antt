-- MERGE carried out: the runs and the level counts that are put are those of the sheet that the definition leaves.
-- Assumes nothing.
use mathlib.Core.Path.{◌≡◌, refl, sym, ◌∙◌, ap, ap₂}
use mathlib.Core.List.{List}
use Prim.Native.Nat.{ℕ, ◌*◌, ◌≤◌}
use native.Mathlib.Nat.{le_trans, mul-le-mul}
use native.Mathlib.Omega.{arith}
use lib.IntN.{ℤ}
use lib.ListN.{length, take, drop}
use lib.Seq.{length-take-le}
use Rattle.buffers.specs.Put.{Put}
use Rattle.buffers.proofs.Puts.{put_length, put_part, put_front}
use Rattle.counting.specs.Table.{Table, columns, table_of}
use Rattle.step_tables.specs.Sheet.{from_sources}
use Rattle.step_tables.specs.Merge.{merge_levels, merge_step}
use Rattle.spare.proofs.Steps.{merge_spare}
use Rattle.sheets.specs.Steps.{filled}
use Rattle.sheets.specs.declared.answer.Answer.TheVariants.{Filled}
use Rattle.layout.specs.Bytes.{runs_of, padded, Zeros, sheet_in}
use Rattle.layout.specs.Step.{Left}
use Rattle.merge_questions.specs.Questions.{members_of, Named}
use Rattle.merged_rows.specs.MergedRow.{HasStops, merged_row}
use Rattle.merged_sheet.specs.Merged.{Mergeable}
use Rattle.layout.specs.declared.Size.{Size}
use Rattle.layout.proofs.Bytes.{runs_length}
use Rattle.layout.proofs.Sheets.{cells_few, ready_few, ready_runs, built_after, built_holds}
use Rattle.merged_rows.proofs.Rows.{row_of_sources}
use Rattle.merged_sheet.proofs.Sheet.{fewer_columns}

pub square_most : {p : ℕ} {numbers : List ℕ} → Named p numbers → p * p ≤ 49
square_most named = mul-le-mul named.most named.most

module _ {p : ℕ} {numbers roles : List ℕ} {size : Size} {table levels scratch : List ℕ} (m : Mergeable p numbers roles size table levels scratch) where
  abbrev members : List ℕ
  members = members_of numbers

  abbrev counted : List ℕ
  counted = take size.columns levels

  abbrev sheet : Table
  sheet = table_of table counted size.runs

  abbrev next : Table
  next = merge_step p members sheet

  pub counted_length : length counted ≡ size.columns
  counted_length = length-take-le size.columns levels (ready_few m.ready)

  pub counted_most : length counted ≤ 128
  counted_most = rw counted_length m.ready.columns_most

  -- the stops that are found are those of its rows
  pub stops_counted : {stops : List ℕ} → HasStops roles size.columns stops → HasStops roles (length counted) stops
  stops_counted found = rw counted_length found

  -- room for the runs in the scratch, and for the level counts
  pub runs_room : size.runs * length counted ≤ length scratch
  runs_room = le_trans (cells_few (ready_runs m.ready) counted_most) m.ready.long.scratch_long

  counts_are : merged_row roles (p * p) counted ≡ next.levels
  unfolding merge_step from_sources merge_levels table_of
  counts_are = row_of_sources (merge_levels p sheet) members roles counted sheet (rw m.fitting.fits.many (omega arith)) m.given refl (λ q h. refl)

  next_columns : columns next ≤ 128
  next_columns = le_trans (fewer_columns m.fitting) counted_most

  -- the runs are built in the scratch, and the level counts put in zeros
  module _ {bytes : List ℕ} {built : ℕ} (runs_put : Put scratch 0 (runs_of next) bytes built)
      {clear counts : List ℕ} {left : ℕ} (counts_put : Put clear 0 (merged_row roles (p * p) counted) counts left) where
    left_many : left ≡ columns next
    left_many = omega (arith, counts_put.ends, ap length counts_are)

    -- what `settle` asks
    pub scratch_asked : (built ≤ length bytes) × Zeros (drop built bytes)
    scratch_asked = (omega (arith, runs_put.fits, put_length runs_put), built_after next m.ready.scratch_clear runs_put)

    pub room_asked : (built ≤ length table) × (length (take left counts) ≤ length levels)
    unfolding merge_step from_sources table_of
    room_asked = (
      omega (arith, runs_put.ends, runs_length next, cells_few (ready_runs m.ready) next_columns, m.ready.long.table_long),
      omega (arith, put_part counts_put, left_many, next_columns, m.ready.long.levels_long),
    )

    -- what it then leaves
    pub settled : {table' levels' : List ℕ} {spared : ℤ} → length table' ≡ length table → length levels' ≡ length levels
        → table' ≡ padded (length table) (take built bytes) → levels' ≡ padded (length levels) (take left counts) → spared ≡ size.spare
        → Left (filled (merge_step p members (sheet_in table levels size))) table levels (Filled size.runs left spared) table' levels'
    unfolding Left sheet_in merge_step from_sources table_of
    settled same_table same_levels runs_are levels_are kept = (
      ap₂ (Filled size.runs) left_many (kept ∙ m.ready.spare_is ∙ sym (merge_spare p members sheet m.fitting.fits)),
      built_holds next m.ready.scratch_clear runs_put (length table) (length levels) same_table same_levels runs_are levels_are (put_front counts_put ∙ counts_are),
    )
