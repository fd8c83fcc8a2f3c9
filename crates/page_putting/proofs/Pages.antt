-- The page of a well-formed sheet, line by line from the two buffers.
-- Assumes nothing.
use mathlib.Core.Path.{◌≡◌, sym, ◌∙◌, ap}
use mathlib.Core.Logic.{by_cases}
use mathlib.Core.List.{List, ◌++◌, map, flat_map}
use Prim.Native.Nat.{ℕ, suc, ◌+◌, ◌-◌, ◌*◌, ◌≤◌, ◌<◌, min}
use native.Mathlib.Decide.{dec_lt}
use native.Mathlib.Omega.{arith}
use borrow.Author.Tests.{lt-ltb, le-ltb}
use lib.ListN.{length, get_or, take, drop, length-take}
use Rattle.finite.specs.Lists.{from}
use Rattle.buffers.specs.Put.{Put}
use Rattle.buffers.proofs.Puts.{put_join}
use Rattle.counting.specs.Table.{Table, levels_of, table_of}
use Rattle.pieces.proofs.Lists.{map_same, flat_map_same}
use Rattle.page_text.specs.Pages.{blanks, right_aligned, in_three, closed, up_to, page_count, first_run, first_column, columns_on, number_line, count_line, run_line, page_line, page_text}
use Rattle.page_text.proofs.Counts.{pages_most, first_run_there, first_column_there}
use Rattle.page_text.proofs.Lines.{line_length, page_split}
use Rattle.page_text.proofs.Rooms.{given_room}
use Rattle.given_sheet.specs.Given.{WellFormed, given_sheet}
use Rattle.given_sheet.proofs.Sheet.{given_columns, given_count, given_level}
use Rattle.page_putting.specs.Part.{part_of, PartIn, part_line}
use Rattle.page_putting.specs.declared.Part.{Part}
use Rattle.page_putting.proofs.Parts.{slice_map, levels_within}

module _ {N m : ℕ} {levels table : List ℕ} (sheet : WellFormed N m levels table) {n : ℕ} (one : 1 ≤ n) (most : n ≤ page_count N m) {part : Part} (is : part ≡ part_of N m n) where
  abbrev T : Table
  T = given_sheet N m levels table

  pub part_in : PartIn N m table part
  unfolding part_of
  part_in =
      let run = first_run_there N n sheet.runs_some in
      let column = first_column_there N m n sheet.runs_some one most in
      rw is
      record {
        runs_most = sheet.runs_most;
        entries_there = sheet.entries_there;
        first_before = omega arith;
        few = omega arith;
        end_within = omega (arith, column);
        start_most = omega (arith, run, sheet.runs_most);
        levels_small = λ r c h k. omega (arith, sheet.in_range r c h k, sheet.counts_most c k);
      }

  -- the numbers of the page and of its columns are below 1,000
  pub number_small : n < 1000
  number_small = omega (arith, pages_most N m sheet.runs_most sheet.columns_most)

  pub end_small : part.end < 1000
  end_small = omega (arith, part_in.end_within, sheet.columns_most)

  -- the columns on the page
  columns_here : columns_on T n ≡ from part.column (part.end - part.column)
  unfolding columns_on up_to part_of given_sheet table_of
  columns_here =
      let first = first_column N n in
      let many : first + min 25 (m - first) - first ≡ min 25 (m - first) = omega arith in
      ap (λ (k : ℕ). from first (min 25 (k - first))) (given_columns sheet) ∙ sym (rw (is, many))

  number_line_lem : closed (right_aligned 4 n ++ in_three (map suc (from part.column (part.end - part.column)))) ≡ number_line T n
  unfolding number_line
  number_line_lem = rw columns_here

  -- what stands in a row in a buffer is what the columns have
  columns_slice : (xs : List ℕ) (start : ℕ) (f : ℕ → ℕ) → start + part.end ≤ length xs → ((c : ℕ) → c < m → get_or xs (start + c) 0 ≡ f c)
      → take (part.end - part.column) (drop (start + part.column) xs) ≡ map f (columns_on T n)
  columns_slice xs start f room same =
      let k = part.end - part.column in
      slice_map xs start part.column k (omega (arith, part_in.first_before))
      ∙ map_same part.column k (λ c. get_or xs (start + c) 0) f (λ c h l. same c (omega (arith, part_in.first_before, part_in.end_within)))
      ∙ ap (map f) (sym columns_here)

  count_line_lem : closed (blanks 4 ++ in_three (take (part.end - part.column) (drop part.column levels))) ≡ count_line T n
  unfolding count_line
  count_line_lem =
      let from_zero : part.column ≡ 0 + part.column = omega arith in
      ap (λ (xs : List ℕ). closed (blanks 4 ++ in_three xs))
      (ap (λ (a : ℕ). take (part.end - part.column) (drop a levels)) from_zero
      ∙ columns_slice levels 0 (levels_of T) (omega (arith, part_in.end_within, sheet.counts_there))
      (λ c h. ap (λ (a : ℕ). get_or levels a 0) (let none : 0 + c ≡ c = omega arith in none) ∙ sym (given_count sheet h)))

  run_line_lem : (r : ℕ) → part_line N m table part r ≡ run_line T n r
  unfolding part_line run_line given_sheet table_of
  run_line_lem r =
      by_cases (dec_lt r N)
      (λ (h : r < N).
      rw (lt-ltb r N h)
      (ap (λ (xs : List ℕ). closed (right_aligned 4 r ++ in_three xs))
      (columns_slice table (r * m) (T.cell r) (levels_within part_in h) (λ c k. sym (given_level sheet r c)))))
      (λ h. let past : N ≤ r = omega arith in rw (le-ltb r N past))

  -- up to 25 level counts
  pub counts_few : length (take (part.end - part.column) (drop part.column levels)) ≤ 25
  counts_few = omega (arith, length-take (part.end - part.column) (drop part.column levels), part_in.few)

  -- one line after the other: the numbers, 80 bytes,
  module _ {a b : List ℕ} {at i : ℕ} (p : Put a at (closed (right_aligned 4 n ++ in_three (map suc (from part.column (part.end - part.column))))) b i) where
    first_line : Put a at (number_line T n) b i
    first_line = rw number_line_lem at p

    pub first_end : i ≡ at + 80
    unfolding page_line
    first_end = omega (arith, first_line.ends, line_length T n (given_room sheet) number_small 0)

    -- the level counts, 80 more,
    module _ {c : List ℕ} {j : ℕ} (q : Put b i (closed (blanks 4 ++ in_three (take (part.end - part.column) (drop part.column levels)))) c j) where
      second_line : Put b i (count_line T n) c j
      second_line = rw count_line_lem at q

      pub second_end : j ≡ at + 160
      unfolding page_line
      second_end = omega (arith, first_end, second_line.ends, line_length T n (given_room sheet) number_small 1)

      -- and the runs
      pub page_put : {d : List ℕ} {k : ℕ} → Put c j (flat_map (λ q. part_line N m table part (part.run + q)) (from 0 58)) d k → Put a at (page_text T n) d k
      unfolding part_of given_sheet table_of
      page_put r =
          let start : part.run ≡ first_run N n = ap (λ (x : Part). x.run) is in
          let lines =
          flat_map_same _ (λ q. run_line T n (first_run N n + q)) 58 (λ q h. run_line_lem (part.run + q) ∙ ap (λ (x : ℕ). run_line T n (x + q)) start) in
          rw (page_split T n) (put_join (put_join first_line second_line) (rw lines at r))
