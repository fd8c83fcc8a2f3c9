-- SPLIT leaves an even sheet, for every strength and every level count: the column's levels are the rows of the table, and each stands in its
-- share of the runs because the sheet is even.
-- Assumes nothing.
use mathlib.Core.Path.{◌≡◌, refl, sym, ◌∙◌, ap, ap₂}
use mathlib.Core.Bool.{Bool, true, false, cond, ◌&&◌}
use mathlib.Core.List.Memᴰ
use mathlib.Core.List.{[], ◌∷◌, map, Memᴰ}
use Prim.Native.Nat.{ℕ, ◌+◌, ◌*◌, ◌<◌}
use native.Mathlib.Omega.{arith}
use borrow.Author.Tests.{eqb-true, eqb-false}
use lib.Dec.{eqb}
use lib.ListN.{length, length-map}
use Rattle.finite.specs.Sum.{count, bit}
use Rattle.finite.specs.Lists.{from}
use Rattle.finite.proofs.Counts.{count_one, sum_balance}
use Rattle.finite.proofs.Lists.{length_from}
use Rattle.counting.specs.Table.{Table, columns, shows, times, combinations, Settings, InRange, Even}
use Rattle.step_tables.specs.Lists.{Distinct}
use Rattle.step_tables.specs.Sheet.{from_sources, OrthogonalArray, AllLevels}
use Rattle.step_tables.specs.Split.{SplitSource, kept, part, split_place, split_sources, split_levels, split_value, split_step, SplitFits}
use Rattle.step_tables.proofs.Lists.{length_flat_map, mem_map, mem_flat_map, mem_from, distinct_map, distinct_flat_map, distinct_from}
use Rattle.step_tables.proofs.Separate.{Place, left, right, levels_at, cell_at}
use Rattle.step_tables.proofs.Replace.{RowsEven, Stays, Replacement, replaced_levels, replaced_array}

abbrev place_of : SplitSource → Place
place_of (kept q) = left q
place_of (part d) = right d

abbrev source_at : Place → SplitSource
source_at (left q) = kept q
source_at (right d) = part d

round : (a : SplitSource) → source_at (place_of a) ≡ a
round (kept q) = refl
round (part d) = refl

-- the number of the column in its table
abbrev number_of : SplitSource → ℕ
number_of (kept q) = q
number_of (part d) = d

-- the sheet column in whose place the source stands
abbrev origin_of : ℕ → SplitSource → ℕ
origin_of c (kept q) = q
origin_of c (part d) = c

module _ (c : ℕ) (T S : Table) where
  -- a source in the place of column q stays, and tells q
  in_place : (q : ℕ) (a : SplitSource) (b : Bool) → eqb q c ≡ b → Memᴰ a (cond b (map part (from 0 (columns T))) (kept q ∷ []))
      → (q < columns S → Stays S T (c ∷ []) (place_of a)) × (origin_of c a ≡ q)
  in_place q a true e m =
      let s = mem_map part (from 0 (columns T)) m in
      let b = mem_from 0 (columns T) s.1 in
      (λ h. rw s.2 (omega arith), rw s.2 (sym (eqb-true q c e)))
  in_place q a false e m =
      let k = Memᴰ.eq_of_singleton m in
      (λ h. rw k (h, λ n. eqb-false q c e (Memᴰ.eq_of_singleton n)), rw k refl)

  place_distinct : (q : ℕ) (b : Bool) → Distinct (cond b (map part (from 0 (columns T))) (kept q ∷ []))
  place_distinct q true = distinct_map part (λ x y e. ap number_of e) (from 0 (columns T)) (distinct_from 0 (columns T))
  place_distinct q false = (Memᴰ.not-nil, tt)

  pub sources_stay : (a : SplitSource) → Memᴰ a (split_sources c T S) → Stays S T (c ∷ []) (place_of a)
  unfolding split_sources split_place
  sources_stay a m =
      let s = mem_flat_map (split_place c (columns T)) (from 0 (columns S)) m in
      let b = mem_from 0 (columns S) s.1 in
      (in_place s.0 a (eqb s.0 c) refl s.2).0 (omega arith)

  sources_distinct : Distinct (split_sources c T S)
  unfolding split_sources split_place
  sources_distinct =
      distinct_flat_map
      (split_place c (columns T))
      (origin_of c)
      (λ q. place_distinct q (eqb q c))
      (λ q a m. (in_place q a (eqb q c) refl m).1)
      (from 0 (columns S))
      (distinct_from 0 (columns S))

  as_many : (a : SplitSource) → split_levels T S a ≡ levels_at S T (place_of a)
  unfolding split_levels
  as_many (kept q) = refl
  as_many (part d) = refl

  values : (r : ℕ) (a : SplitSource) → split_value c T S r a ≡ cell_at S T r (S.cell r c) (place_of a)
  unfolding split_value
  values r (kept q) = refl
  values r (part d) = refl

  module _ (fits : SplitFits c T S) (g : ℕ) (sheet : OrthogonalArray g S) where
    -- the level of column c is a row of the table
    within : (r : ℕ) → r < S.runs → S.cell r c < T.runs
    unfolding InRange
    within r h = rw fits.as_many (sheet.in_range r c h fits.on_sheet)

    rows_even : RowsEven g S T (λ r. S.cell r c) (c ∷ [])
    unfolding Even times shows combinations Settings
    rows_even ls v h s apart l =
        ap (λ n. n * combinations S ls * count S.runs (λ r. eqb (S.cell r c) v && shows S ls r)) fits.as_many
        ∙ sheet.even
        (record { column = c; level = v } ∷ ls)
        h
        (fits.on_sheet, rw fits.as_many at l, apart c (Memᴰ.head refl), s)

    replacement : Replacement S T (λ r. S.cell r c) (c ∷ []) (split_levels T S) (split_value c T S) (split_sources c T S)
    replacement =
        record {
          place = place_of;
          back = source_at;
          round = round;
          as_many = as_many;
          values = values;
          within = within;
          given = record { past = kept 0; distinct = sources_distinct; allowed = sources_stay };
        }

    pub split_leaves : OrthogonalArray g T → OrthogonalArray g (split_step c T S)
    unfolding split_step
    split_leaves table = replaced_array replacement g sheet table rows_even

    pub split_levels_lem : (Q : ℕ → Type 0) → AllLevels Q S → AllLevels Q T → AllLevels Q (split_step c T S)
    unfolding split_step
    split_levels_lem = replaced_levels replacement

  place_length : (q : ℕ) (b : Bool) → length (cond b (map part (from 0 (columns T))) (kept q ∷ [])) + bit b ≡ 1 + columns T * bit b
  place_length q true = let e = length-map (from 0 (columns T)) part ∙ length_from 0 (columns T) in omega arith
  place_length q false = omega arith

  -- one column goes, and the table's come
  pub split_columns : SplitFits c T S → columns (split_step c T S) + 1 ≡ columns S + columns T
  unfolding split_step from_sources split_sources split_place
  split_columns fits =
      ap₂
      ◌+◌
      (length-map (split_sources c T S) (split_levels T S) ∙ length_flat_map (split_place c (columns T)) (columns S))
      (sym (count_one (columns S) c fits.on_sheet))
      ∙ sum_balance
      (columns S)
      (columns T)
      c
      (λ q. length (split_place c (columns T) q))
      (λ q. eqb q c)
      fits.on_sheet
      (λ q h. place_length q (eqb q c))
