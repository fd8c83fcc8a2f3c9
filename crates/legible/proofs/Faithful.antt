-- Every number on a page is the sheet's, stands in its place and is read back; and nothing else stands there.
-- Assumes nothing.
use mathlib.Core.Path.{◌≡◌, refl, ◌∙◌, ap}
use mathlib.Core.Logic.{by_cases, inl, inr}
use mathlib.Core.List.{List, []}
use Prim.Native.Nat.{ℕ, zero, suc, ◌+◌, ◌*◌, ◌%◌, ◌≤◌, ◌<◌}
use native.Mathlib.Nat.{zero-add}
use native.Mathlib.Decide.{dec_lt}
use native.Mathlib.Omega.{arith}
use borrow.Author.Tests.{lt-ltb, le-ltb}
use lib.ListN.{length, get_or, take, drop}
use Rattle.finite.specs.Lists.{from}
use Rattle.finite.proofs.Lists.{length_from}
use Rattle.counting.specs.Table.{Table, columns, levels_of}
use Rattle.pieces.proofs.Lists.{get_d_from, pieces_at}
use Rattle.words.specs.Words.{reading}
use Rattle.page_text.specs.Pages.{blanks, right_aligned, closed, page_count, number_line, count_line, run_line, page_line, page_text, HasRoom}
use Rattle.page_text.proofs.Aligned.{aligned_length}
use Rattle.page_text.proofs.Counts.{first_run_there, first_column_there}
use Rattle.page_text.proofs.Lines.{line_length, page_length}
use Rattle.legible.specs.Faithful.{place_of, characters, ShowsNumber, Widths, Faithful}
use Rattle.legible.proofs.Places.{run_at, column_at, on_run, on_column, on_there, line_there, place_there}
use Rattle.legible.proofs.ReadBack.{reads_back}
use Rattle.legible.proofs.Parts.{piece_part}
use Rattle.legible.proofs.Closed.{closed_blank, closed_end}
use Rattle.legible.proofs.Rows.{Row, row_head, row_place, row_blank, row_end}
use Rattle.legible.proofs.Widths.{widths_suffice}

-- what is right-aligned there is shown
shown : {page : List ℕ} {line place w number : ℕ} → characters page line place w ≡ right_aligned w number → number ≤ 65535 → ShowsNumber page line place w number
shown {w} {number} e h = record { aligned = e; reads = ap reading e ∙ reads_back w number h }

module _ (T : Table) (n : ℕ) (room : HasRoom T) (some : 1 ≤ T.runs) (one : 1 ≤ n) (most : n ≤ page_count T.runs (columns T)) where
  widths : Widths T n
  widths = widths_suffice T n room most

  -- ---- the lines are rows of numbers, or blank

  -- line 1
  number_row : Row T n (right_aligned 4 n) suc (page_line T n 0)
  unfolding page_line number_line
  number_row =
      record {
        four = aligned_length 4 n widths.page_number.1;
        below = λ c h. omega (arith, (widths.column_number c h).0);
        line_is = refl;
      }

  -- line 2
  count_row : Row T n (blanks 4) (levels_of T) (page_line T n 1)
  unfolding page_line count_line
  count_row = record { four = refl; below = λ c h. omega (arith, (widths.level_count c h).0); line_is = refl }

  -- a run
  run_row : (r : ℕ) → r < T.runs → Row T n (right_aligned 4 r) (T.cell r) (run_line T n r)
  unfolding run_line
  run_row r h =
      record {
        four = aligned_length 4 r (widths.run_number r h).1;
        below = λ c l. omega (arith, (widths.level r c h l).0);
        line_is = rw (lt-ltb r T.runs h);
      }

  -- past the last run
  no_run : (r : ℕ) → T.runs ≤ r → run_line T n r ≡ closed []
  unfolding run_line
  no_run r h = rw (le-ltb r T.runs h)

  -- ---- each line ends in a line feed

  run_end : (r : ℕ) → get_or (run_line T n r) 79 0 ≡ 10
  run_end r =
      by_cases (dec_lt r T.runs)
      (λ (h : r < T.runs). row_end (run_row r h))
      (λ h. ap (λ (xs : List ℕ). get_or xs 79 0) (no_run r (omega arith)) ∙ closed_end [] (omega arith))

  line_end : (k : ℕ) → get_or (page_line T n k) 79 0 ≡ 10
  unfolding page_line
  line_end zero = row_end number_row
  line_end (suc zero) = row_end count_row
  line_end (suc (suc k)) = run_end (run_at T n k)

  -- ---- the page has line k in its 80 bytes from 80 * k on

  eighty : (k : ℕ) → length (page_line T n k) ≡ 80
  eighty = line_length T n room (omega (arith, widths.page_number.0))

  page_end : (k : ℕ) → k < 60 → get_or (page_text T n) (80 * k + 79) 0 ≡ 10
  unfolding page_text
  page_end k h =
      let there : 80 * k + 79 ≡ k * 80 + 79 = omega arith in
      ap (λ (i : ℕ). get_or (page_text T n) i 0) there ∙ pieces_at (page_line T n) 80 eighty 0 60 k 79 h (omega arith) ∙ line_end k

  -- w characters of line k
  in_line : (k p w : ℕ) → k < 60 → p + w ≤ 80 → characters (page_text T n) k p w ≡ take w (drop p (page_line T n k))
  unfolding page_text
  in_line k p w h l =
      piece_part (page_line T n) 80 (from 0 60) k p w (λ i b. eighty (get_or (from 0 60) i 0)) (omega (arith, length_from 0 60)) l
      ∙ ap (λ (i : ℕ). take w (drop p (page_line T n i))) (get_d_from 0 60 k h ∙ zero-add k)

  -- the line of run r, which is run k of the page
  in_run_line : (r k p w : ℕ) → r ≡ run_at T n k → k < 58 → p + w ≤ 80 → characters (page_text T n) (2 + k) p w ≡ take w (drop p (run_line T n r))
  unfolding page_line
  in_run_line r k p w is h l =
      let after : 2 + k ≡ suc (suc k) = omega arith in
      in_line (2 + k) p w (omega arith) l ∙ rw (after, is)

  -- nothing stands in the line of a run that is not there
  no_run_blank : (k p w : ℕ) → k < 58 → p + w ≤ 79 → T.runs ≤ run_at T n k → characters (page_text T n) (2 + k) p w ≡ blanks w
  no_run_blank k p w h l past =
      in_run_line (run_at T n k) k p w refl h (omega arith)
      ∙ ap (λ (xs : List ℕ). take w (drop p xs)) (no_run (run_at T n k) past)
      ∙ closed_blank [] (omega arith) p w (omega arith) l

  -- ---- every number of the page, and nothing else

  pub faithful : Faithful T n (page_text T n)
  faithful =
      record {
        many = page_length T n room (omega (arith, widths.page_number.0));
        widths = widths;
        page_number = shown (in_line 0 0 4 (omega arith) (omega arith) ∙ row_head number_row) (omega (arith, widths.page_number.0));
        level = λ r c on.
            shown
            (in_run_line r (r % 58) (place_of c) 3 (on_run on) (omega arith) (omega arith)
            ∙ row_place (run_row r on.run_there) (c % 25) c (on_column on) (omega arith) on.column_there)
            (omega (arith, (widths.level r c on.run_there on.column_there).0));
        run_number = λ r c on.
            shown
            (in_run_line r (r % 58) 0 4 (on_run on) (omega arith) (omega arith) ∙ row_head (run_row r on.run_there))
            (omega (arith, (widths.run_number r on.run_there).0));
        column_number = λ r c on.
            shown
            (in_line 0 (place_of c) 3 (omega arith) (omega arith) ∙ row_place number_row (c % 25) c (on_column on) (omega arith) on.column_there)
            (omega (arith, (widths.column_number c on.column_there).0));
        level_count = λ r c on.
            shown
            (in_line 1 (place_of c) 3 (omega arith) (omega arith) ∙ row_place count_row (c % 25) c (on_column on) (omega arith) on.column_there)
            (omega (arith, (widths.level_count c on.column_there).0));
        level_only = λ k j h l.
            by_cases (dec_lt (run_at T n k) T.runs)
            (λ (run : run_at T n k < T.runs).
            by_cases (dec_lt (column_at T n j) (columns T))
            (λ (column : column_at T n j < columns T).
            inl (run_at T n k, column_at T n j, on_there T n k j one h l run column, line_there T n k h, place_there T n j l))
            (λ past.
            inr
            (in_run_line (run_at T n k) k (4 + 3 * j) 3 refl h (omega arith)
            ∙ row_blank (run_row (run_at T n k) run) j l (omega arith))))
            (λ past. inr (no_run_blank k (4 + 3 * j) 3 h (omega arith) (omega arith)));
        run_number_only = λ k h.
            by_cases (dec_lt (run_at T n k) T.runs)
            (λ (run : run_at T n k < T.runs).
            let column : column_at T n 0 < columns T = omega (arith, first_column_there T.runs (columns T) n some one most) in
            inl (run_at T n k, column_at T n 0, on_there T n k 0 one h (omega arith) run column, line_there T n k h))
            (λ past. inr (no_run_blank k 0 4 h (omega arith) (omega arith)));
        column_only = λ j l.
            by_cases (dec_lt (column_at T n j) (columns T))
            (λ (column : column_at T n j < columns T).
            let run : run_at T n 0 < T.runs = omega (arith, first_run_there T.runs n some) in
            inl (run_at T n 0, column_at T n j, on_there T n 0 j one (omega arith) l run column, place_there T n j l))
            (λ past.
            let beyond : columns T ≤ column_at T n j = omega arith in
            inr (
              in_line 0 (4 + 3 * j) 3 (omega arith) (omega arith) ∙ row_blank number_row j l beyond,
              in_line 1 (4 + 3 * j) 3 (omega arith) (omega arith) ∙ row_blank count_row j l beyond,
            ));
        corner = in_line 1 0 4 (omega arith) (omega arith) ∙ row_head count_row;
        line_feed = page_end;
      }
