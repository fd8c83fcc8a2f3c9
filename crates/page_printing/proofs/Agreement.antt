-- Tables that look the same have the same pages.
-- Assumes nothing.
use mathlib.Core.Path.{◌≡◌, refl, sym, ◌∙◌, ap, ap₂}
use mathlib.Core.Logic.{by_cases}
use mathlib.Core.List.{List, [], ◌∷◌, ◌++◌, map, flat_map}
use Prim.Native.Nat.{ℕ, zero, suc, ◌+◌, ◌-◌, ◌≤◌, ◌<◌, min}
use native.Mathlib.Decide.{dec_lt}
use native.Mathlib.Omega.{arith}
use borrow.Author.Tests.{lt-ltb, le-ltb}
use lib.ListN.{get_or}
use Rattle.finite.specs.Lists.{from}
use Rattle.counting.specs.Table.{Table, columns, levels_of}
use Rattle.step_tables.specs.Sheet.{Agree}
use Rattle.step_tables.proofs.Agreement.{agree_columns}
use Rattle.pieces.proofs.Lists.{map_same, flat_map_same}
use Rattle.page_text.specs.Pages.{page_count, first_run, first_column, up_to, columns_on, number_line, count_line, run_line, page_line, page_text}
use Rattle.page_text.proofs.Lines.{columns_are}
use Rattle.page_report.specs.PageReport.{all_pages, sheet_pages}
use Rattle.page_argument.specs.declared.Asked.{Asked}
use Rattle.page_argument.specs.declared.Asked.TheVariants.{All, One}

flat_map_agree : (f g : ℕ → List ℕ) → ((n : ℕ) → f n ≡ g n) → (ns : List ℕ) → flat_map f ns ≡ flat_map g ns
unfolding flat_map
flat_map_agree f g same [] = refl
flat_map_agree f g same (n ∷ ns) = ap₂ ◌++◌ (same n) (flat_map_agree f g same ns)

module _ {A B : Table} (alike : Agree A B) where
  -- the columns on a page
  columns_agree : (n : ℕ) → columns_on A n ≡ columns_on B n
  unfolding columns_on
  columns_agree n = ap₂ (λ (N m : ℕ). up_to 25 (first_column N n) m) alike.same_runs (agree_columns alike)

  -- and their level counts and levels
  counts_agree : (n : ℕ) → map (levels_of A) (columns_on A n) ≡ map (levels_of B) (columns_on B n)
  counts_agree n = ap₂ (λ (xs cs : List ℕ). map (λ c. get_or xs c 0) cs) alike.same_levels (columns_agree n)

  levels_agree : (n r : ℕ) → r < A.runs → map (A.cell r) (columns_on A n) ≡ map (B.cell r) (columns_on B n)
  levels_agree n r h =
      let first = first_column A.runs n in
      ap (map (A.cell r)) (columns_are A n)
      ∙ map_same first (min 25 (columns A - first)) (A.cell r) (B.cell r) (λ c l k. alike.same_cells r c h (omega arith))
      ∙ ap (map (B.cell r)) (sym (columns_are A n) ∙ columns_agree n)

  run_agrees : (n r : ℕ) → run_line A n r ≡ run_line B n r
  unfolding run_line
  run_agrees n r =
      by_cases (dec_lt r A.runs)
      (λ (h : r < A.runs).
      let k : r < B.runs = omega (arith, alike.same_runs) in
      rw (lt-ltb r A.runs h, lt-ltb r B.runs k, levels_agree n r h))
      (λ h.
      let past : A.runs ≤ r = omega arith in
      let past' : B.runs ≤ r = omega (arith, alike.same_runs) in
      rw (le-ltb r A.runs past, le-ltb r B.runs past'))

  line_agrees : (n k : ℕ) → page_line A n k ≡ page_line B n k
  unfolding page_line number_line count_line
  line_agrees n zero = rw (columns_agree n)
  line_agrees n (suc zero) = rw (counts_agree n)
  line_agrees n (suc (suc k)) = run_agrees n (first_run A.runs n + k) ∙ ap (λ (N : ℕ). run_line B n (first_run N n + k)) alike.same_runs

  text_agrees : (n : ℕ) → page_text A n ≡ page_text B n
  unfolding page_text
  text_agrees n = flat_map_same (page_line A n) (page_line B n) 60 (λ k h. line_agrees n k)

  count_agrees : page_count A.runs (columns A) ≡ page_count B.runs (columns B)
  count_agrees = ap₂ page_count alike.same_runs (agree_columns alike)

  -- so they are printed alike, whatever is asked for
  pub pages_agree : (asked : Asked) → sheet_pages asked A ≡ sheet_pages asked B
  unfolding sheet_pages all_pages
  pages_agree All = ap (λ (k : ℕ). flat_map (page_text A) (from 1 k)) count_agrees ∙ flat_map_agree (page_text A) (page_text B) text_agrees (from 1 (page_count B.runs (columns B)))
  pages_agree (One n) = rw (count_agrees, text_agrees n)
