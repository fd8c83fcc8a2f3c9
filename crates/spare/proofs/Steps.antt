-- The spare degrees through the steps, over every sheet (02, K1): MERGE leaves them as they are, for every p together; SPLIT adds those of the
-- table that is put in; SUM, and CROSS (02, K6), have N × M − 1 less the sum over the new columns.
-- Assumes nothing.
use mathlib.Core.Path.{◌≡◌, refl, sym, ◌∙◌, ap, ap₂}
use mathlib.Core.Bool.{Bool, true, false, cond}
use mathlib.Core.List.Memᴰ
use mathlib.Core.List.{List, [], ◌∷◌, map, flat_map, map-append, map-map, Memᴰ}
use Prim.Native.Nat.{ℕ, ◌+◌, ◌*◌, ◌<◌}
use native.Mathlib.Nat.{mul-one, mul-zero, mul-add}
use native.Mathlib.Omega.{arith}
use borrow.Author.Tests.{eqb-true}
use lib.Dec.{eqb}
use lib.IntN.{pos, ◌+ℤ◌, ◌-ℤ◌}
use Rattle.finite.specs.Sum.{sum, count, bit}
use Rattle.finite.specs.Lists.{from}
use Rattle.finite.proofs.Sums.{sum_ext}
use Rattle.finite.proofs.Counts.{count_one, sum_more}
use Rattle.galois.specs.Arithmetic.{member}
use Rattle.order.specs.Order.{total}
use Rattle.counting.specs.Table.{Table, columns, levels_of}
use Rattle.counting.specs.Matrix.{Matrix}
use Rattle.step_tables.specs.Sheet.{from_sources}
use Rattle.step_tables.specs.Sum.{rows_of, sum_step}
use Rattle.step_tables.specs.Cross.{cross_step}
use Rattle.step_tables.specs.Merge.{member_at, kept as unmerged, merged, merge_place, merge_sources, merge_levels, merge_step, MergeFits}
use Rattle.step_tables.specs.Split.{kept, part, split_place, split_sources, split_levels, split_step, SplitFits}
use Rattle.step_tables.proofs.Lists.{measure_flat_map, count_member, member_mem, mem_member, mem_get_d, map_get_d}
use Rattle.step_tables.proofs.Merge.{merge_columns}
use Rattle.step_tables.proofs.Split.{split_columns}
use Rattle.spare.specs.Spare.{degrees, spare_of, spare}
use Rattle.integers.proofs.Differences.{difference_sum, same_difference}
use Rattle.spare.proofs.Totals.{total_append, total_columns, spare_total}

-- the level counts of some sources, place by place
total_places : {A : Type 0} (levels : A → ℕ) (place : ℕ → List A) (n : ℕ)
    → total (map levels (flat_map place (from 0 n))) ≡ sum n (λ q. total (map levels (place q)))
total_places levels place n =
    measure_flat_map (λ xs. total (map levels xs)) refl
    (λ xs ys. ap total (map-append levels xs ys) ∙ total_append (map levels xs) (map levels ys))
    place
    n

-- where terms differ by d at some numbers and by e at others, so do their sums, once for each of them
sums_balance : (n d e : ℕ) (f g : ℕ → ℕ) (less more : ℕ → Bool) → ((q : ℕ) → q < n → f q + d * bit (less q) ≡ g q + e * bit (more q))
    → sum n f + d * count n less ≡ sum n g + e * count n more
sums_balance n d e f g less more each = sym (sum_more n d f less) ∙ sum_ext n each ∙ sum_more n e g more

-- ---- MERGE

module _ (p : ℕ) (cs : List ℕ) (S : Table) (fits : MergeFits p cs S) where
  first_member : Memᴰ (member_at cs 1) cs
  first_member = mem_get_d cs 0 0 (omega (arith, fits.many))

  merge_place_lem : (q : ℕ) (b d : Bool) → eqb q (member_at cs 1) ≡ b → member q cs ≡ d
      → total (map (merge_levels p S) (cond b (merged ∷ []) (cond d [] (unmerged q ∷ [])))) + p * bit d ≡ levels_of S q + p * p * bit b
  unfolding merge_levels
  merge_place_lem q true true e f = omega (arith, fits.levels q (member_mem q cs (rw f tt)), mul-one p, mul-one (p * p))
  merge_place_lem q true false e f = absurd (rw f at (mem_member (Memᴰ.cast (eqb-true q (member_at cs 1) e) first_member)))
  merge_place_lem q false true e f = omega (arith, fits.levels q (member_mem q cs (rw f tt)), mul-one p, mul-zero (p * p))
  merge_place_lem q false false e f = omega (arith, mul-zero p, mul-zero (p * p))

  -- p × p levels come, and p + 1 times p levels go
  merge_total : total (merge_step p cs S).levels + p ≡ total S.levels
  unfolding merge_step from_sources merge_sources merge_place
  merge_total =
      omega (
        arith,
        total_places (merge_levels p S) (merge_place cs) (columns S),
        total_columns S.levels,
        sums_balance (columns S) p (p * p) (λ q. total (map (merge_levels p S) (merge_place cs q))) (levels_of S) (λ q. member q cs) (λ q. eqb q (member_at cs 1))
            (λ q h. merge_place_lem q (eqb q (member_at cs 1)) (member q cs) refl refl),
        ap (λ x. p * x) (count_member (columns S) cs fits.different fits.on_sheet ∙ fits.many),
        mul-add p p 1,
        mul-one p,
        ap (λ x. p * p * x) (count_one (columns S) (member_at cs 1) (fits.on_sheet (member_at cs 1) first_member)),
        mul-one (p * p),
      )

  pub merge_spare : spare (merge_step p cs S) ≡ spare S
  unfolding merge_step from_sources
  merge_spare =
      spare_total S.runs (merge_step p cs S).levels
      ∙ same_difference (S.runs + columns (merge_step p cs S)) (1 + total (merge_step p cs S).levels) (S.runs + columns S) (1 + total S.levels)
      (omega (arith, merge_columns p cs S fits, merge_total))
      ∙ sym (spare_total S.runs S.levels)

-- ---- SPLIT

module _ (c : ℕ) (T S : Table) (fits : SplitFits c T S) where
  split_place_lem : (q : ℕ) (b : Bool) → eqb q c ≡ b
      → total (map (split_levels T S) (cond b (map part (from 0 (columns T))) (kept q ∷ []))) + T.runs * bit b ≡ levels_of S q + total T.levels * bit b
  unfolding split_levels
  split_place_lem q true e =
      let counts : total (map (split_levels T S) (map part (from 0 (columns T)))) ≡ total T.levels =
      ap total (map-map (split_levels T S) part (from 0 (columns T)) ∙ map_get_d T.levels 0)
      in
      omega (arith, counts, fits.as_many, ap (levels_of S) (eqb-true q c e), mul-one T.runs, mul-one (total T.levels))
  split_place_lem q false e = omega (arith, mul-zero T.runs, mul-zero (total T.levels))

  -- the table's levels come, and as many as it has runs go
  split_total : total (split_step c T S).levels + T.runs ≡ total S.levels + total T.levels
  unfolding split_step from_sources split_sources split_place
  split_total =
      let once = count_one (columns S) c fits.on_sheet in
      omega (
        arith,
        total_places (split_levels T S) (split_place c (columns T)) (columns S),
        total_columns S.levels,
        sums_balance (columns S) T.runs (total T.levels) (λ q. total (map (split_levels T S) (split_place c (columns T) q))) (levels_of S) (λ q. eqb q c) (λ q. eqb q c)
            (λ q h. split_place_lem q (eqb q c) refl),
        ap (λ x. T.runs * x) once,
        mul-one T.runs,
        ap (λ x. total T.levels * x) once,
        mul-one (total T.levels),
      )

  pub split_spare : spare (split_step c T S) ≡ spare S +ℤ spare T
  unfolding split_step from_sources
  split_spare =
      spare_total S.runs (split_step c T S).levels
      ∙ same_difference (S.runs + columns (split_step c T S)) (1 + total (split_step c T S).levels) (S.runs + columns S + (T.runs + columns T)) (1 + total S.levels + (1 + total T.levels))
      (omega (arith, split_columns c T S fits, split_total))
      ∙ sym (difference_sum (S.runs + columns S) (1 + total S.levels) (T.runs + columns T) (1 + total T.levels))
      ∙ sym (ap₂ ◌+ℤ◌ (spare_total S.runs S.levels) (spare_total T.runs T.levels))

-- ---- SUM

module _ (plus : ℕ → ℕ → ℕ → ℕ) (Ds : List Matrix) (K S : Table) where
  pub sum_spare : spare (sum_step plus Ds K S) ≡ pos (S.runs * rows_of Ds) -ℤ pos 1 -ℤ degrees (sum_step plus Ds K S).levels
  unfolding spare_of sum_step from_sources
  sum_spare = refl

-- ---- CROSS

module _ (plus : ℕ → ℕ → ℕ → ℕ) (Ds : List Matrix) (K H S : Table) where
  pub cross_spare : spare (cross_step plus Ds K H S) ≡ pos (S.runs * rows_of Ds) -ℤ pos 1 -ℤ degrees (cross_step plus Ds K H S).levels
  unfolding spare_of cross_step from_sources
  cross_spare = refl
