-- Laws of a page's lines: which columns are on it, that every line has its 79 characters and a line feed, and the page as its two upper lines and 58 runs.
-- Assumes nothing.
use mathlib.Core.Path.{◌≡◌, refl, sym, ◌∙◌, ap}
use mathlib.Core.Logic.{by_cases}
use mathlib.Core.List.{List, [], ◌∷◌, ◌++◌, map, flat_map, append_assoc}
use Prim.Native.Nat.{ℕ, zero, suc, ◌+◌, ◌-◌, ◌*◌, ◌≤◌, ◌<◌, min}
use native.Mathlib.Decide.{dec_le, dec_lt}
use native.Mathlib.Omega.{arith}
use lib.ListN.{length, length-append, length-map, length-replicate}
use borrow.Author.Tests.{lt-ltb, le-ltb}
use Rattle.finite.specs.Lists.{from}
use Rattle.finite.proofs.Lists.{Below, none, below_from, below_map, length_from}
use Rattle.decimals.proofs.Decimals.{decimal_length}
use Rattle.counting.specs.Table.{Table, columns, levels_of, InRange}
use Rattle.pieces.proofs.Lists.{pieces_length}
use Rattle.page_text.specs.Pages.{blanks, right_aligned, in_three, closed, up_to, columns_on, first_column, first_run, number_line, count_line, run_line, page_line, page_text, HasRoom}
use Rattle.page_text.proofs.Aligned.{aligned_length, three_length}

-- ---- a line

pub closed_length : (text : List ℕ) → length text ≤ 79 → length (closed text) ≡ 80
unfolding closed
closed_length text h =
    length-append (text ++ blanks (79 - length text)) (10 ∷ [])
    ∙ omega (arith, length-append text (blanks (79 - length text)), length-replicate {A = ℕ} (79 - length text) 32)

-- four characters, and three for each number
pub four_length : (head : List ℕ) (ns : List ℕ) → length head ≡ 4 → Below 1000 ns → length (head ++ in_three ns) ≡ 4 + 3 * length ns
four_length head ns four b = length-append head (in_three ns) ∙ omega (arith, three_length ns b)

-- 25 numbers at most have room
pub closed_few : (head : List ℕ) (ns : List ℕ) → length head ≡ 4 → Below 1000 ns → length ns ≤ 25 → length (closed (head ++ in_three ns)) ≡ 80
closed_few head ns four b few = closed_length (head ++ in_three ns) (omega (arith, four_length head ns four b))

-- ---- the columns on a page

pub columns_are : (T : Table) (n : ℕ) → columns_on T n ≡ from (first_column T.runs n) (min 25 (columns T - first_column T.runs n))
unfolding columns_on up_to
columns_are T n = refl

pub columns_length : (T : Table) (n : ℕ) → length (columns_on T n) ≡ min 25 (columns T - first_column T.runs n)
columns_length T n = ap length (columns_are T n) ∙ length_from (first_column T.runs n) (min 25 (columns T - first_column T.runs n))

columns_few : (T : Table) (n : ℕ) → length (columns_on T n) ≤ 25
columns_few T n = omega (arith, columns_length T n)

-- the numbers from a on, as far as n
below_least : (k a n : ℕ) → Below n (from a (min k (n - a)))
unfolding from
below_least k a n =
    by_cases (dec_le a n)
    (λ (h : a ≤ n). below_from a (min k (n - a)) (omega arith))
    (λ h. let over : min k (n - a) ≡ 0 = omega arith in rw over none)

pub columns_below : (T : Table) (n : ℕ) → Below (columns T) (columns_on T n)
columns_below T n = rw (columns_are T n) (below_least 25 (first_column T.runs n) (columns T))

-- ---- the lines of a page

module _ (T : Table) (n : ℕ) (room : HasRoom T) where
  -- four characters, and below 1,000 what each column on the page has there
  row_length : (head : List ℕ) (f : ℕ → ℕ) → length head ≡ 4 → ((c : ℕ) → c < columns T → f c < 1000) → length (closed (head ++ in_three (map f (columns_on T n)))) ≡ 80
  row_length head f four below =
      closed_few head (map f (columns_on T n)) four (below_map below (columns_below T n)) (rw (length-map (columns_on T n) f) (columns_few T n))

  -- a run, or a blank line
  run_length : (r : ℕ) → length (run_line T n r) ≡ 80
  unfolding run_line InRange
  run_length r =
      by_cases (dec_lt r T.runs)
      (λ (h : r < T.runs).
      rw (lt-ltb r T.runs h)
      (row_length (right_aligned 4 r) (T.cell r) (aligned_length 4 r (decimal_length 3 r (omega (arith, room.runs_most))))
      (λ c k. omega (arith, room.in_range r c h k, room.counts_most c k))))
      (λ h.
      let past : T.runs ≤ r = omega arith in
      rw (le-ltb r T.runs past) (closed_length [] (omega arith)))

  pub line_length : n < 1000 → (k : ℕ) → length (page_line T n k) ≡ 80
  unfolding page_line number_line count_line
  line_length h zero =
      row_length (right_aligned 4 n) suc (aligned_length 4 n (decimal_length 3 n (omega arith))) (λ c k. omega (arith, room.columns_most))
  line_length h (suc zero) = row_length (blanks 4) (levels_of T) refl (λ c k. omega (arith, room.counts_most c k))
  line_length h (suc (suc k)) = run_length (first_run T.runs n + k)

  pub page_length : n < 1000 → length (page_text T n) ≡ 4800
  unfolding page_text
  page_length h = pieces_length (page_line T n) 80 (line_length h) 60

-- ---- the page as its two upper lines and the runs

-- the first piece apart from the others
first_piece : (f : ℕ → List ℕ) (a n : ℕ) → flat_map f (from a (suc n)) ≡ f a ++ flat_map f (from (suc a) n)
unfolding flat_map from
first_piece f a n = refl

-- the pieces from 1 on, counted from 0
later_pieces : (f : ℕ → List ℕ) (a n : ℕ) → flat_map f (from (suc a) n) ≡ flat_map (λ k. f (suc k)) (from a n)
unfolding flat_map from
later_pieces f a zero = refl
later_pieces f a (suc n) = ap (λ (xs : List ℕ). f (suc a) ++ xs) (later_pieces f (suc a) n)

pub page_split : (T : Table) (n : ℕ) → page_text T n ≡ number_line T n ++ count_line T n ++ flat_map (λ k. run_line T n (first_run T.runs n + k)) (from 0 58)
unfolding page_text page_line
page_split T n =
    let lines = page_line T n in
    first_piece lines 0 59
    ∙ ap (λ (xs : List ℕ). lines 0 ++ xs) (first_piece lines 1 58 ∙ ap (λ (xs : List ℕ). lines 1 ++ xs) (later_pieces lines 1 58 ∙ later_pieces (λ k. lines (suc k)) 0 58))
    ∙ sym (append_assoc (lines 0) (lines 1) (flat_map (λ k. lines (suc (suc k))) (from 0 58)))
