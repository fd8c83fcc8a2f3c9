-- Laws of the sheet in hand: where it lies in the buffers, and that another that was built in the scratch takes its place.
-- Assumes nothing.
use mathlib.Core.Path.{◌≡◌, sym, ◌∙◌, ap, ap₂}
use mathlib.Core.List.{List, map, flat_map}
use Prim.Native.Nat.{ℕ, ◌+◌, ◌-◌, ◌*◌, ◌≤◌, ◌<◌}
use native.Mathlib.Nat.{le_trans, mul-le-mul}
use native.Mathlib.Omega.{arith}
use lib.ListN.{length, get_or, take, drop}
use lib.Seq.{length-take-le, get_or-take}
use Rattle.finite.specs.Lists.{from}
use Rattle.buffers.specs.Put.{Put}
use Rattle.buffers.proofs.Puts.{put_front}
use Rattle.counting.specs.Table.{Table, columns, levels_of, table_of}
use Rattle.step_tables.specs.Sheet.{SmallEnough, Agree}
use Rattle.step_tables.proofs.Agreement.{agree_columns}
use Rattle.spare.specs.Spare.{spare_of, spare}
use Rattle.sheets.specs.declared.answer.Answer.{Answer}
use Rattle.sheets.specs.declared.answer.Answer.TheVariants.{Filled}
use Rattle.layout.specs.Bytes.{run_of, runs_of, padded, Holds, Zeros, sheet_in}
use Rattle.layout.specs.Step.{Ready}
use Rattle.layout.specs.declared.Size.{Size}
use Rattle.layout.proofs.Bytes.{map_below, flat_map_same, put_padded, runs_length, runs_cell}
pub use Rattle.pieces.proofs.Padded.{padded_length, zero_at, padded_at, padded_front, padded_after, padded_within}

-- ---- the sheet in hand

module _ (table levels : List ℕ) (size : Size) (few : size.columns ≤ length levels) where
  pub sheet_columns : columns (sheet_in table levels size) ≡ size.columns
  unfolding sheet_in table_of
  sheet_columns = length-take-le size.columns levels few

  pub sheet_level : (c : ℕ) → c < size.columns → levels_of (sheet_in table levels size) c ≡ get_or levels c 0
  unfolding sheet_in table_of
  sheet_level c h = get_or-take size.columns levels c 0 h

  pub sheet_cell : (r c : ℕ) → (sheet_in table levels size).cell r c ≡ get_or table (r * size.columns + c) 0
  unfolding sheet_in table_of
  sheet_cell r c = ap (λ (m : ℕ). get_or table (r * m + c) 0) (length-take-le size.columns levels few)

  -- the sheet's cells, and as many bytes as they are
  sheet_runs_length : length (runs_of (sheet_in table levels size)) ≡ size.runs * size.columns
  unfolding sheet_in table_of
  sheet_runs_length = runs_length (sheet_in table levels size) ∙ ap (λ (m : ℕ). size.runs * m) sheet_columns

  -- where nothing else lies in the buffers, they are zero after it
  module _ (holds : Holds (sheet_in table levels size) table levels) where
    pub held_after : Zeros (drop (size.runs * size.columns) table)
    held_after = rw holds.runs_first (padded_after (length table) (size.runs * size.columns) _ sheet_runs_length)

    pub held_levels_after : Zeros (drop size.columns levels)
    held_levels_after = rw holds.levels_first (padded_after (length levels) size.columns _ sheet_columns)

-- at most 512 runs of at most 128 columns
pub cells_few : {runs columns : ℕ} → runs ≤ 512 → columns ≤ 128 → runs * columns ≤ 65536
cells_few h k = mul-le-mul h k

module _ {list : List ℕ} {size : Size} {table levels scratch : List ℕ} (ready : Ready list size table levels scratch) where
  pub ready_few : size.columns ≤ length levels
  ready_few = le_trans ready.columns_most ready.long.levels_long

  pub ready_runs : size.runs ≤ 512
  unfolding sheet_in table_of
  ready_runs = ready.small.runs_most

  pub ready_columns : columns (sheet_in table levels size) ≡ size.columns
  ready_columns = sheet_columns table levels size ready_few

  pub ready_used : size.runs * size.columns ≤ length table
  ready_used = le_trans (cells_few ready_runs ready.columns_most) ready.long.table_long

  pub ready_after : Zeros (drop (size.runs * size.columns) table)
  ready_after = held_after table levels size ready_few ready.holds

  pub ready_levels_after : Zeros (drop size.columns levels)
  ready_levels_after = held_levels_after table levels size ready_few ready.holds

-- ---- a sheet built in a clear scratch

module _ {clear scratch : List ℕ} {built : ℕ} (S : Table) (zeros_before : Zeros clear) (put : Put clear 0 (runs_of S) scratch built) where
  built_scratch : scratch ≡ padded (length clear) (runs_of S)
  unfolding Zeros
  built_scratch = put_padded (length clear) zeros_before put

  built_many : length (runs_of S) ≡ built
  built_many = omega (arith, put.ends)

  -- what `settle` asks of the scratch
  pub built_after : Zeros (drop built scratch)
  built_after = rw built_scratch (padded_after (length clear) built (runs_of S) built_many)

  -- what it then leaves
  pub built_holds : {table levels counts : List ℕ} (n m : ℕ)
      → length table ≡ n → length levels ≡ m
      → table ≡ padded n (take built scratch) → levels ≡ padded m counts → counts ≡ S.levels → Holds S table levels
  built_holds {table} {levels} {counts} n m table_long levels_long runs_are levels_are counts_are =
      record {
        runs_first = runs_are ∙ ap₂ padded (sym table_long) (put_front put);
        levels_first = levels_are ∙ ap₂ padded (sym levels_long) counts_are;
      }

-- ---- the sheet of the definitions and the one in bytes

-- a table that lies in the buffers is the sheet of its size there
pub holds_agrees : (S : Table) (table levels : List ℕ) (size : Size) → Holds S table levels → size.runs ≡ S.runs → size.columns ≡ columns S
    → size.columns ≤ length levels → Agree S (sheet_in table levels size)
unfolding sheet_in table_of
holds_agrees S table levels size holds runs_are columns_are few =
    record {
      same_runs = sym runs_are;
      same_levels =
          sym (padded_front (length levels) size.columns S.levels (sym columns_are)) ∙ ap (take size.columns) (sym holds.levels_first);
      same_cells = λ r c h k.
          sym (runs_cell S r c h k)
          ∙ sym (padded_at (length table) (runs_of S) (r * columns S + c))
          ∙ ap₂ (λ (xs : List ℕ) (m : ℕ). get_or xs (r * m + c) 0) (sym holds.runs_first) (sym columns_are ∙ sym (sheet_columns table levels size few));
    }

-- tables of one shape with the same bytes agree
pub bytes_agree : {A B : Table} → A.runs ≡ B.runs → A.levels ≡ B.levels → runs_of A ≡ runs_of B → Agree A B
bytes_agree {A} {B} same_runs same_levels same_bytes =
    record {
      same_runs = same_runs;
      same_levels = same_levels;
      same_cells = λ r c h k.
          sym (runs_cell A r c h k)
          ∙ ap₂ (λ (xs : List ℕ) (m : ℕ). get_or xs (r * m + c) 0) same_bytes (ap length same_levels)
          ∙ runs_cell B r c (rw (← same_runs) h) (rw (← ap length same_levels) k);
    }

-- and one that agrees with it lies there too
module _ {A B : Table} (alike : Agree A B) where
  pub run_agrees : (r : ℕ) → r < A.runs → run_of A r ≡ run_of B r
  unfolding run_of
  run_agrees r h =
      map_below (A.cell r) (B.cell r) (columns A) (λ c k. alike.same_cells r c h k)
      ∙ ap (λ (m : ℕ). map (B.cell r) (from 0 m)) (agree_columns alike)

  pub runs_agree : runs_of A ≡ runs_of B
  unfolding runs_of
  runs_agree =
      flat_map_same (run_of A) (run_of B) A.runs run_agrees ∙ ap (λ (n : ℕ). flat_map (run_of B) (from 0 n)) alike.same_runs

  pub agree_holds : {table levels : List ℕ} → Holds A table levels → Holds B table levels
  agree_holds {table} {levels} holds =
      record {
        runs_first = holds.runs_first ∙ ap (padded (length table)) runs_agree;
        levels_first = holds.levels_first ∙ ap (padded (length levels)) alike.same_levels;
      }

-- the spare degrees of a table that lies in the buffers are worked out from its level counts there
module _ {S : Table} {table levels : List ℕ} (holds : Holds S table levels) {runs many : ℕ} (same_runs : runs ≡ S.runs) (same_columns : many ≡ columns S) where
  -- what `sheet_answer` asks
  pub held_limits : SmallEnough S → (runs ≤ 512) × (many ≤ 128) × (many ≤ length levels)
  held_limits small =
      rw (same_runs, same_columns) (small.runs_most, small.columns_most, padded_within levels S.levels holds.levels_first)

  -- what it then gives is the answer to the table
  pub held_answer : {answer : Answer} → answer ≡ Filled runs many (spare_of runs (take many levels)) → answer ≡ Filled S.runs (columns S) (spare S)
  held_answer worked_out =
      let front : take many levels ≡ S.levels = ap (take many) holds.levels_first ∙ padded_front (length levels) many S.levels (sym same_columns) in
      let same_spare : spare_of runs (take many levels) ≡ spare S = ap₂ spare_of same_runs front in
      cc
