-- The part of a sheet that is on a page: its columns and its lines are those of the definitions.
-- Assumes nothing.
use mathlib.Core.Path.{◌≡◌, refl, sym, ◌∙◌, ap}
use mathlib.Core.Logic.{by_cases}
use mathlib.Core.List.{List, [], ◌++◌, map, flat_map}
use Prim.Native.Nat.{ℕ, ◌+◌, ◌-◌, ◌*◌, ◌/◌, ◌%◌, ◌≤◌, ◌<◌, min}
use native.Mathlib.Decide.{dec_lt}
use native.Mathlib.Omega.{arith}
use borrow.Author.Tests.{lt-ltb, le-ltb}
use lib.ListN.{length, get_or, take, drop, length-map, length-drop}
use lib.Seq.{length-take-le, get_or-take, get_or-drop, ext_get_or}
use Rattle.finite.specs.Lists.{from}
use Rattle.finite.proofs.Lists.{Below, below_map, below_from, length_from, get_d_map}
use Rattle.buffers.specs.Put.{Put}
use Rattle.buffers.proofs.Puts.{put_none}
use Rattle.pieces.proofs.Lists.{get_d_from}
use Rattle.page_text.specs.Pages.{right_aligned, in_three, closed, parts, page_count, first_run, first_column}
use Rattle.page_text.proofs.Counts.{parts_some, first_run_there, first_column_there}
use Rattle.page_text.proofs.Lines.{closed_length, closed_few}
use Rattle.page_text.proofs.Aligned.{aligned_length}
use Rattle.decimals.proofs.Decimals.{decimal_length}
use Rattle.given_sheet.proofs.Given.{run_within}
use Rattle.page_putting.specs.Part.{part_of, PartIn, part_line}
use Rattle.page_putting.specs.declared.Part.{Part}

-- some bytes in a row, as what the numbers of their places have
pub slice_map : (xs : List ℕ) (s a k : ℕ) → s + a + k ≤ length xs → take k (drop (s + a) xs) ≡ map (λ c. get_or xs (s + c) 0) (from a k)
slice_map xs s a k h =
    let long : length (take k (drop (s + a) xs)) ≡ k = length-take-le k (drop (s + a) xs) (omega (arith, length-drop (s + a) xs)) in
    ext_get_or 0 _ _ (long ∙ sym (length-map (from a k) (λ c. get_or xs (s + c) 0) ∙ length_from a k))
    (λ i l.
    let there : i < k = omega (arith, long) in
    let place : s + a + i ≡ s + (a + i) = omega arith in
    get_or-take k (drop (s + a) xs) i 0 there
    ∙ get_or-drop (s + a) xs i 0
    ∙ ap (λ (j : ℕ). get_or xs j 0) place
    ∙ sym (get_d_map (λ c. get_or xs (s + c) 0) (from a k) {i = i} (rw (length_from a k) there) ∙ ap (λ (j : ℕ). get_or xs (s + j) 0) (get_d_from a k i there)))

-- ---- the lines of the runs

module _ {N m : ℕ} {table : List ℕ} {part : Part} (there : PartIn N m table part) where
  -- the levels of a run on the page lie within the table
  pub levels_within : {r : ℕ} → r < N → r * m + part.end ≤ length table
  levels_within {r} h = omega (arith, run_within r m refl h there.entries_there, there.end_within)

  -- they are below 1,000
  levels_below : {r : ℕ} → r < N → Below 1000 (take (part.end - part.column) (drop (r * m + part.column) table))
  levels_below {r} h =
      rw (slice_map table (r * m) part.column (part.end - part.column) (omega (arith, levels_within h, there.first_before)))
      (below_map {m = m} (λ c k. omega (arith, there.levels_small r c h k)) (below_from part.column (part.end - part.column) (omega (arith, there.first_before, there.end_within))))

  levels_few : {r : ℕ} → r < N → length (take (part.end - part.column) (drop (r * m + part.column) table)) ≡ part.end - part.column
  levels_few {r} h = length-take-le _ _ (omega (arith, length-drop (r * m + part.column) table, levels_within h, there.first_before))

  -- so that every line has its 80 bytes
  pub part_line_length : (r : ℕ) → length (part_line N m table part r) ≡ 80
  unfolding part_line
  part_line_length r =
      by_cases (dec_lt r N)
      (λ (h : r < N).
      rw (lt-ltb r N h)
      (closed_few (right_aligned 4 r) _ (aligned_length 4 r (decimal_length 3 r (omega (arith, there.runs_most)))) (levels_below h)
      (omega (arith, levels_few h, there.few))))
      (λ h. let past : N ≤ r = omega arith in rw (le-ltb r N past) (closed_length [] (omega arith)))

  pub line_blank : {r : ℕ} → N ≤ r → closed [] ≡ part_line N m table part r
  unfolding part_line
  line_blank {r} h = rw (le-ltb r N h)

  pub line_run : {r : ℕ} → r < N
      → closed (right_aligned 4 r ++ in_three (take (r * m + part.end - (r * m + part.column)) (drop (r * m + part.column) table))) ≡ part_line N m table part r
  unfolding part_line
  line_run {r} h =
      let many : r * m + part.end - (r * m + part.column) ≡ part.end - part.column = omega (arith, there.first_before) in
      rw (lt-ltb r N h, many)

-- ---- the part of a page

module _ (N m n : ℕ) {b : ℕ} (blocks : b ≡ parts 58 N) (some : 1 ≤ N) (one : 1 ≤ n) (most : n ≤ page_count N m) where
  -- there is a part, and a page begins with one of the runs and one of the columns
  pub blocks_some : 0 < b
  blocks_some = omega (arith, blocks, parts_some N some)

  pub run_small : (n - 1) % b * 58 < N
  unfolding first_run
  run_small = rw blocks (first_run_there N n some)

  pub column_small : (n - 1) / b * 25 < m
  unfolding first_column
  column_small = rw blocks (first_column_there N m n some one most)

  -- up to 25 columns
  pub part_is : {end : ℕ} → end ≡ min m ((n - 1) / b * 25 + 25) → ◌≡◌ {A = Part} (record { run = (n - 1) % b * 58; column = (n - 1) / b * 25; end = end }) (part_of N m n)
  unfolding part_of first_run first_column
  part_is {end} e =
      let ends : (n - 1) / b * 25 + min 25 (m - (n - 1) / b * 25) ≡ end = omega (arith, column_small, e) in rw (← blocks, ends)

-- ---- lines one after the other

-- none yet
pub lines_none : (f : ℕ → List ℕ) (a : List ℕ) (i : ℕ) → i ≤ length a → Put a i (flat_map f (from 0 0)) a i
unfolding flat_map from
lines_none f a i h = put_none a i h
