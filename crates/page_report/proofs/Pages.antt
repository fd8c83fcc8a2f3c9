-- The pages of a well-formed sheet, put one after the other, or one of them.
-- Assumes nothing.
use mathlib.Core.Path.{◌≡◌, sym, ap, subst}
use mathlib.Core.Bool.{true, false, ◌&&◌}
use mathlib.Core.List.{List, [], ◌∷◌, flat_map, append-nil}
use Prim.Native.Nat.{ℕ, ◌+◌, ◌≤◌}
use native.Mathlib.Omega.{arith}
use lib.Dec.{T, leb, leb→le}
use Rattle.finite.specs.Lists.{from}
use Rattle.finite.proofs.Tests.{T_and}
use Rattle.buffers.specs.Put.{Put}
use Rattle.buffers.proofs.Puts.{put_length, put_none, put_join}
use Rattle.counting.specs.Table.{Table, columns, table_of}
use Rattle.pieces.proofs.Lists.{from_next, flat_map_append}
use Rattle.given_sheet.specs.Given.{WellFormed, given_sheet}
use Rattle.given_sheet.proofs.Sheet.{given_columns}
use Rattle.page_text.specs.Pages.{page_count, page_text}
use Rattle.page_text.proofs.Counts.{pages_most}
use Rattle.page_text.proofs.Lines.{page_length}
use Rattle.page_text.proofs.Rooms.{given_room}
use Rattle.page_report.specs.PageReport.{all_pages, no_such_page, sheet_pages}
use Rattle.page_argument.specs.declared.Asked.TheVariants.{One}

-- ---- pieces from 1 on

pub pages_none : (f : ℕ → List ℕ) (a : List ℕ) → Put a 0 (flat_map f (from 1 0)) a 0
unfolding flat_map from
pages_none f a = put_none a 0 (omega arith)

pub pages_next : (f : ℕ → List ℕ) (k : ℕ) {a b c : List ℕ} {i j l : ℕ} → Put a i (flat_map f (from 1 k)) b j → Put b j (f (k + 1)) c l → Put a i (flat_map f (from 1 (k + 1))) c l
unfolding flat_map
pages_next f k p q =
    let one : 1 + k ≡ k + 1 = omega arith in
    rw (from_next 1 k, flat_map_append f (from 1 k) ((1 + k) ∷ []), append-nil (f (1 + k)), one) (put_join p q)

-- a number that is found to be that of a page
pub asked_there : (n k : ℕ) → (leb 1 n && leb n k) ≡ true → (1 ≤ n) × (n ≤ k)
asked_there n k e = let both = (T_and (leb 1 n) (leb n k)).0 (subst T (sym e) tt) in (leb→le 1 n both.0, leb→le n k both.1)

-- ---- the pages of a sheet

module _ {N m : ℕ} {levels table : List ℕ} (sheet : WellFormed N m levels table) where
  abbrev sheet_given : Table
  sheet_given = given_sheet N m levels table

  -- as many pages as its runs and columns make
  as_many : page_count sheet_given.runs (columns sheet_given) ≡ page_count N m
  unfolding given_sheet table_of
  as_many = ap (page_count N) (given_columns sheet)

  pub few_pages : page_count N m ≤ 54
  few_pages = pages_most N m sheet.runs_most sheet.columns_most

  -- where a page ends
  pub page_end : (n : ℕ) → n ≤ page_count N m → {a b : List ℕ} {i j : ℕ} → Put a i (page_text sheet_given n) b j → j ≡ i + 4800
  page_end n most p = omega (arith, p.ends, page_length sheet_given n (given_room sheet) (omega (arith, few_pages)))

  -- all of them
  pub all_put : (k : ℕ) → k ≡ page_count N m → {a b : List ℕ} {i j : ℕ} → Put a i (flat_map (page_text sheet_given) (from 1 k)) b j → Put a i (all_pages sheet_given) b j
  unfolding all_pages
  all_put k all p = rw (as_many, ← all) p

  -- the one that is asked for, where there is one
  pub one_put : (n : ℕ) → (leb 1 n && leb n (page_count N m)) ≡ true → {a b : List ℕ} {i j : ℕ} → Put a i (page_text sheet_given n) b j → Put a i (sheet_pages (One n) sheet_given) b j
  unfolding sheet_pages
  one_put n there p = rw (as_many, there) p

  pub none_put : (n : ℕ) → (leb 1 n && leb n (page_count N m)) ≡ false → {a b : List ℕ} {i j : ℕ} → Put a i no_such_page b j → Put a i (sheet_pages (One n) sheet_given) b j
  unfolding sheet_pages
  none_put n none p = rw (as_many, none) p

-- How many pages there are, where each ends, and that the buffer keeps its length.
pub ruleset pages_put = (few_pages, page_end, put_length)
