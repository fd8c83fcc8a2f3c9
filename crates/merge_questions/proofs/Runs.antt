-- A run of the sheet in hand as it is lent, and the members' columns in it, where the members fit that sheet.
-- Assumes nothing.
use mathlib.Core.Path.{◌≡◌, ◌∙◌, ap}
use mathlib.Core.List.{List}
use Prim.Native.Nat.{ℕ, ◌+◌, ◌-◌, ◌*◌, ◌≤◌, ◌<◌}
use native.Mathlib.Omega.{arith}
use lib.ListN.{length, get_or, take, drop, length-drop}
use lib.Seq.{length-take-le, get_or-take, get_or-drop}
use Rattle.finite.proofs.Fits.{run_end}
use Rattle.counting.specs.Table.{InRange, table_of}
use Rattle.step_tables.proofs.Lists.{mem_get_d}
use Rattle.merge_questions.specs.Questions.{members_of, Fitting}

-- ---- a part of a list, as it is lent

-- m bytes from place start on
abbrev pub part_of : List ℕ → ℕ → ℕ → List ℕ
part_of xs start m = take (start + m - start) (drop start xs)

pub part_length : (xs : List ℕ) (start m : ℕ) → start + m ≤ length xs → length (part_of xs start m) ≡ m
part_length xs start m h = length-take-le (start + m - start) (drop start xs) (omega (arith, length-drop start xs)) ∙ omega arith

pub part_at : (xs : List ℕ) (start m c : ℕ) → c < m → get_or (part_of xs start m) c 0 ≡ get_or xs (start + c) 0
part_at xs start m c h = get_or-take (start + m - start) (drop start xs) c 0 (omega arith) ∙ get_or-drop start xs c 0

module _ {p : ℕ} {numbers table levels : List ℕ} {runs : ℕ} (fit : Fitting p numbers table levels runs) where
  abbrev members : List ℕ
  members = members_of numbers

  -- a member is a column of the sheet
  pub member_column : (k : ℕ) → k < p + 1 → get_or members k 0 < length levels
  unfolding table_of
  member_column k h = fit.fits.on_sheet (get_or members k 0) (mem_get_d members k 0 (rw fit.fits.many h))

  -- a member's level in a run is below p
  pub member_level : (k r : ℕ) → k < p + 1 → r < runs → get_or table (r * length levels + get_or members k 0) 0 < p
  unfolding InRange table_of
  member_level k r h l =
      rw (fit.fits.levels (get_or members k 0) (mem_get_d members k 0 (rw fit.fits.many h))) at
      (fit.in_range r (get_or members k 0) l (member_column k h))

  -- run r, which lies from place start on
  module _ (r start : ℕ) (h : r < runs) (e : start ≡ r * length levels) where
    abbrev row : List ℕ
    row = part_of table start (length levels)

    pub row_end : start + length levels ≤ length table
    row_end = rw e (run_end r (length levels) h fit.whole)

    pub row_length : length row ≡ length levels
    row_length = part_length table start (length levels) row_end

    pub row_cell : (c : ℕ) → c < length levels → get_or row c 0 ≡ get_or table (r * length levels + c) 0
    row_cell c l = part_at table start (length levels) c l ∙ ap (λ (n : ℕ). get_or table (n + c) 0) e
