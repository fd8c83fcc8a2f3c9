-- Laws of SUM on bytes: what the arrays tell of the matrices that serve a level count.
-- Assumes nothing.
use mathlib.Core.Path.{◌≡◌, ◌∙◌, ap}
use mathlib.Core.List.{List}
use Prim.Native.Nat.{ℕ, ◌+◌, ◌*◌, ◌-◌, ◌/◌, ◌%◌, ◌≤◌, ◌<◌}
use native.Mathlib.Nat.{mod-lt, div-lt_iff_lt-mul, le_refl}
use native.Mathlib.Omega.{arith}
use lib.Arith.{digits_lt}
use lib.ListN.{length, get_or, take, drop, length-append, length-map}
use Rattle.finite.specs.Lists.{AllBelow}
use Rattle.finite.proofs.Fits.{run_end}
use Rattle.counting.specs.Table.{Table, columns, table_of, InRange}
use Rattle.step_tables.specs.Sum.{level_sum}
use Rattle.step_tables.proofs.Sum.{factor_positive}
use Rattle.ingredients.proofs.Parts.{part_length, part_at}
use Rattle.layout.specs.Bytes.{run_of}
use Rattle.sum_bytes.specs.Summing.{EntriesStand, served_row, summed_cells, summed_run, RowStands, RunStands, SheetStands, built_run}
use Rattle.layout.proofs.Bytes.{run_length}

-- ---- a row of the matrix that serves s

module _ {list entries widths : List ℕ} {y : ℕ} (w : RowStands list entries widths y) where
  pub row_length : (s : ℕ) → length (served_row list entries widths y s) ≡ get_or widths s 0
  unfolding served_row
  row_length s = part_length list (get_or entries s 0 + y * get_or widths s 0) (get_or widths s 0) (w.within s)

-- a part as the code takes it, from its start to its end
pub part_same : (start n : ℕ) (xs : List ℕ) → take (start + n - start) (drop start xs) ≡ take n (drop start xs)
part_same start n xs = ap (λ (k : ℕ). take k (drop start xs)) (let same : start + n - start ≡ n = omega arith in same)

pub row_part : (list entries widths : List ℕ) (y s : ℕ)
    → take (get_or entries s 0 + y * get_or widths s 0 + get_or widths s 0 - (get_or entries s 0 + y * get_or widths s 0)) (drop (get_or entries s 0 + y * get_or widths s 0) list)
    ≡ served_row list entries widths y s
unfolding served_row
row_part list entries widths y s = part_same (get_or entries s 0 + y * get_or widths s 0) (get_or widths s 0) list

pub cells_length : (list entries widths : List ℕ) (y : ℕ) (levels cells : List ℕ) (j : ℕ)
    → length (summed_cells list entries widths y levels cells j) ≡ length (served_row list entries widths y (get_or levels j 0))
unfolding summed_cells
cells_length list entries widths y levels cells j = length-map (served_row list entries widths y (get_or levels j 0)) (level_sum (get_or levels j 0) (get_or cells j 0))

-- ---- the parts that a run of the next sheet is built from

-- sheet run and matrix row of run r
module _ (runs rows r : ℕ) (h : r < runs * rows) where
  pub rows_positive : 0 < rows
  rows_positive = factor_positive runs rows h

  pub run_below : r / rows < runs
  run_below = (div-lt_iff_lt-mul rows_positive).1 h

  pub row_below : r % rows < rows
  row_below = mod-lt r rows_positive

pub row_stands : {list entries widths : List ℕ} {rows : ℕ} → EntriesStand list rows entries widths → (y : ℕ) → y < rows → RowStands list entries widths y
unfolding AllBelow served_row
row_stands {list} {entries} {widths} {rows} stand y h =
    let within : (s : ℕ) → get_or entries s 0 + y * get_or widths s 0 + get_or widths s 0 ≤ length list =
    λ s. omega (arith, run_end y (get_or widths s 0) h (le_refl (rows * get_or widths s 0)), stand.within s)
    in
    record {
      entries_full = stand.entries_full;
      widths_full = stand.widths_full;
      within = within;
      below = λ s k l.
          let width = get_or widths s 0 in
          let start = get_or entries s 0 + y * width in
          let in_row : k < width = rw (part_length list start width (within s)) at l in
          let place : get_or entries s 0 + (y * width + k) ≡ start + k = omega arith in
          rw (part_at list start width (within s) k in_row, ← place) (stand.below s (y * width + k) (digits_lt h in_row));
    }

pub run_within : {table levels : List ℕ} {runs : ℕ} → SheetStands table levels runs → (i : ℕ) → i < runs → i * length levels + length levels ≤ length table
run_within {table} {levels} stand i h = run_end i (length levels) h stand.within

pub run_stands : {table levels : List ℕ} {runs : ℕ} → SheetStands table levels runs → (i : ℕ) → i < runs → RunStands levels (take (length levels) (drop (i * length levels) table))
unfolding InRange table_of
run_stands {table} {levels} {runs} stand i h =
    let within = run_within stand i h in
    record {
      whole = part_length table (i * length levels) (length levels) within;
      few = stand.few;
      in_range = λ j k. rw (part_at table (i * length levels) (length levels) within j k) (stand.in_range i j h k);
    }

pub built_length : (list entries widths : List ℕ) (rows : ℕ) (K : Table) (table levels : List ℕ) (r : ℕ)
    → length (built_run list entries widths rows K table levels r)
    ≡ length (summed_run list entries widths (r % rows) levels (take (length levels) (drop (r / rows * length levels) table))) + columns K
unfolding built_run
built_length list entries widths rows K table levels r =
    length-append (summed_run list entries widths (r % rows) levels (take (length levels) (drop (r / rows * length levels) table))) (run_of K (r % rows))
    ∙ ap (λ (n : ℕ). length (summed_run list entries widths (r % rows) levels (take (length levels) (drop (r / rows * length levels) table))) + n) (run_length K (r % rows))
