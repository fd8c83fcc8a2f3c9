-- The sheet that MERGE leaves, run by run, where the members fit the sheet in hand.
-- Assumes nothing.
use mathlib.Core.Path.{◌≡◌, sym, ◌∙◌, ap, ap₂}
use mathlib.Core.List.{List, flat_map}
use Prim.Native.Nat.{ℕ, ◌+◌, ◌*◌, ◌≤◌, ◌<◌}
use native.Mathlib.Nat.{mul_comm, mul-le-mul, le_trans, lt_of_lt_of_le}
use native.Mathlib.Omega.{arith}
use lib.Arith.{digits_lt}
use lib.Dec.{lit≤}
use lib.ListN.{length, get_or}
use Rattle.finite.specs.Lists.{from}
use Rattle.finite.proofs.Fits.{run_more}
use Rattle.buffers.specs.Put.{Put}
use Rattle.buffers.proofs.Puts.{put_none}
use Rattle.counting.specs.Table.{Table, columns, table_of}
use Rattle.step_tables.specs.Merge.{merge_sources, merge_levels, merged_level, merge_value, merge_step}
use Rattle.step_tables.proofs.Merge.{merge_columns}
use Rattle.layout.specs.Bytes.{run_of, runs_of}
use Rattle.merge_questions.specs.Questions.{members_of, Fitting, HasRoles}
use Rattle.merged_rows.specs.MergedRow.{merged_row}
use Rattle.layout.proofs.Bytes.{run_sources, run_length}
use Rattle.layout.proofs.Rows.{pieces_next}
use Rattle.merge_questions.proofs.Runs.{part_of, member_column, member_level, row_length, row_cell}
use Rattle.merged_rows.proofs.Rows.{row_of_sources}

-- ---- the runs of a table, put one after the other

-- the first n runs of the table S are put, at most m bytes for each
pub record RunsPut (S : Table) (m : ℕ) (before : List ℕ) (n : ℕ) (after : List ℕ) (end : ℕ) : Type 0 where
  pub within : end ≤ n * m
  pub put : Put before 0 (flat_map (run_of S) (from 0 n)) after end

module _ (S : Table) (m : ℕ) where
  pub runs_none : (before : List ℕ) → RunsPut S m before 0 before 0
  unfolding flat_map from
  runs_none before = record { within = omega arith; put = put_none before 0 (omega arith) }

  pub runs_next : {before a b : List ℕ} {i j : ℕ} (n : ℕ) → columns S ≤ m → RunsPut S m before n a i → Put a i (run_of S n) b j → RunsPut S m before (n + 1) b j
  runs_next n few w q =
      record {
        within = rw (run_more n m) (omega (arith, w.within, q.ends, run_length S n));
        put = pieces_next (run_of S) w.put q;
      }

  pub runs_all : {before after : List ℕ} {n end : ℕ} → n ≡ S.runs → RunsPut S m before n after end → Put before 0 (runs_of S) after end
  unfolding runs_of
  runs_all e w = rw e at w.put

module _ {p : ℕ} {numbers table levels : List ℕ} {runs : ℕ} (fit : Fitting p numbers table levels runs) where
  abbrev members : List ℕ
  members = members_of numbers

  abbrev sheet : Table
  sheet = table_of table levels runs

  abbrev next : Table
  next = merge_step p members sheet

  -- run r, which lies from place start on
  module _ (r start : ℕ) (h : r < runs) (e : start ≡ r * length levels) where
    abbrev row : List ℕ
    row = part_of table start (length levels)

    -- the members c1 and c2
    module _ (c1 c2 : ℕ) (e1 : c1 ≡ get_or members 0 0) (e2 : c2 ≡ get_or members 1 0) where
      below1 : c1 < length levels
      below1 = rw e1 (member_column fit 0 (omega arith))

      below2 : c2 < length levels
      below2 = rw e2 (member_column fit 1 (omega (arith, fit.named.least)))

      level1 : get_or row c1 0 < p
      level1 = rw (row_cell fit r start h e c1 below1, e1) (member_level fit 0 r (omega arith) h)

      level2 : get_or row c2 0 < p
      level2 = rw (row_cell fit r start h e c2 below2, e2) (member_level fit 1 r (omega (arith, fit.named.least)) h)

      -- the merged level is below p × p, at most 49
      pub merged_byte : p * get_or row c1 0 + get_or row c2 0 < 256
      merged_byte =
          rw (mul_comm p (get_or row c1 0))
          (lt_of_lt_of_le (digits_lt level1 level2) (le_trans (mul-le-mul fit.named.most fit.named.most) (lit≤ tt)))

      pub merged_columns : (c1 < length row) × (c2 < length row)
      merged_columns = (rw (row_length fit r start h e) below1, rw (row_length fit r start h e) below2)

      -- the row that is put is the run of the next sheet
      pub merged_run : (roles : List ℕ) (level : ℕ) → HasRoles members roles → level ≡ p * get_or row c1 0 + get_or row c2 0
          → merged_row roles level row ≡ run_of next r
      unfolding merge_step merge_value merged_level table_of
      merged_run roles level given is =
          ap (λ (n : ℕ). merged_row roles n row)
          (is ∙ ap₂ (λ (x y : ℕ). p * x + y) (row_cell fit r start h e c1 below1 ∙ ap (sheet.cell r) e1) (row_cell fit r start h e c2 below2 ∙ ap (sheet.cell r) e2))
          ∙ row_of_sources (merge_value p members sheet r) members roles row sheet (rw fit.fits.many (omega arith)) given (row_length fit r start h e) (row_cell fit r start h e)
          ∙ sym (run_sources runs (merge_levels p sheet) (merge_value p members sheet) (merge_sources members sheet) r)

  -- of p + 1 members one is left
  pub fewer_columns : columns next ≤ length levels
  unfolding table_of
  fewer_columns = omega (arith, merge_columns p members sheet fit.fits)
