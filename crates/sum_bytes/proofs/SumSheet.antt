-- The sheet that SUM builds: its runs are the bytes that are put one after the other, and it is the sheet of the definition.
-- Assumes nothing.
use mathlib.Core.Path.{◌≡◌, refl, sym, ◌∙◌, ap, ap₂}
use mathlib.Core.Logic.{◌⊎◌, ⊎_elim}
use mathlib.Core.Bool.{Bool, true, false, cond, ◌&&◌}
use mathlib.Core.List.{List, [], ◌∷◌, ◌++◌, map, flat_map}
use Prim.Native.Nat.{ℕ, ◌+◌, ◌*◌, ◌%◌, ◌≤◌, ◌<◌}
use native.Mathlib.Nat.{le_trans, zero-add}
use native.Mathlib.Omega.{arith}
use lib.Dec.{leb}
use lib.ListN.{length, get_or, take, drop, replicate, length-append, length-replicate}
use lib.Seq.{length-take-le}
use Rattle.finite.specs.Lists.{from, AllBelow}
use Rattle.finite.proofs.Sums.{sum_ext}
use Rattle.buffers.specs.Put.{Put}
use Rattle.buffers.proofs.Puts.{put_length}
use Rattle.counting.specs.Table.{Table, columns, table_of}
use Rattle.step_tables.specs.Sheet.{AllLevels, SmallEnough, small_enough}
use Rattle.spare.specs.Spare.{spare_of}
use Rattle.sheets.specs.Steps.{filled, refused, sized}
use Rattle.sheets.specs.declared.answer.Refusal.TheVariants.{TooLarge}
use Rattle.sheets.specs.declared.answer.Answer.{Answer}
use Rattle.sheets.specs.declared.answer.Answer.TheVariants.{Filled, Refused}
use Rattle.step_tables.proofs.Lists.{map_get_d, length_flat_map}
use Rattle.step_tables.proofs.StepQuestions.{size_decides}
use Rattle.layout.specs.Bytes.{run_of, runs_of, padded, Holds, Zeros, sheet_in}
use Rattle.layout.specs.Step.{Ready, Left}
use Rattle.sum_bytes.specs.Summing.{EntriesStand, summed_levels, summed_cells, summed_run, RowStands, SheetStands, built_run, built_sheet}
use Rattle.layout.specs.declared.Size.{Size}
use Rattle.layout.proofs.Bytes.{flat_map_same, runs_length}
use Rattle.layout.proofs.Sheets.{cells_few, built_after, ready_few, ready_used, held_answer}
use Rattle.sum_bytes.proofs.Serving.{true_is, false_is}
use Rattle.sum_bytes.proofs.Sums.{row_below, row_stands, row_length, cells_length, built_length}

-- ---- what the elements of a list give, place by place

flat_map_map : {A B C : Type 0} (f : B → List C) (g : A → B) (xs : List A) → flat_map f (map g xs) ≡ flat_map (λ x. f (g x)) xs
unfolding flat_map
flat_map_map f g [] = refl
flat_map_map f g (x ∷ xs) = ap (λ ys. f (g x) ++ ys) (flat_map_map f g xs)

pub flat_map_places : {B : Type 0} (f : ℕ → List B) (xs : List ℕ) → flat_map f xs ≡ flat_map (λ k. f (get_or xs k 0)) (from 0 (length xs))
flat_map_places f xs = ap (flat_map f) (sym (map_get_d xs 0)) ∙ flat_map_map f (λ k. get_or xs k 0) (from 0 (length xs))

-- ---- how long a run is

module _ {list entries widths : List ℕ} {y : ℕ} (stands : RowStands list entries widths y) (levels cells : List ℕ) where
  summed_length : length (summed_run list entries widths y levels cells) ≡ length (summed_levels widths levels)
  unfolding summed_run summed_levels
  summed_length =
      let f : ℕ → List ℕ = summed_cells list entries widths y levels cells in
      let g : ℕ → List ℕ = λ s. replicate (get_or widths s 0) s in
      length_flat_map f (length levels)
      ∙ sum_ext (length levels) (λ j h. cells_length list entries widths y levels cells j ∙ row_length stands (get_or levels j 0) ∙ sym (length-replicate (get_or widths (get_or levels j 0) 0) (get_or levels j 0)))
      ∙ sym (ap length (flat_map_places g levels) ∙ length_flat_map (λ j. g (get_or levels j 0)) (length levels))

module _ {list entries widths : List ℕ} {rows : ℕ} (stand : EntriesStand list rows entries widths) (K : Table) (table levels : List ℕ) (runs : ℕ) where
  run_long : (r : ℕ) → r < runs * rows → length (built_run list entries widths rows K table levels r) ≡ length (summed_levels widths levels ++ K.levels)
  run_long r h =
      built_length list entries widths rows K table levels r
      ∙ ap (λ (n : ℕ). n + columns K) (summed_length (row_stands stand (r % rows) (row_below runs rows r h)) levels _)
      ∙ sym (length-append (summed_levels widths levels) K.levels)

  -- the runs of the sheet, one after the other
  pub built_runs : runs_of (built_sheet list entries widths rows K table levels runs) ≡ flat_map (built_run list entries widths rows K table levels) (from 0 (runs * rows))
  unfolding runs_of run_of built_sheet
  built_runs =
      flat_map_same _ (built_run list entries widths rows K table levels) (runs * rows) (λ r h.
      ap (λ (n : ℕ). map (λ c. get_or (built_run list entries widths rows K table levels r) c 0) (from 0 n)) (sym (run_long r h))
      ∙ map_get_d (built_run list entries widths rows K table levels r) 0)

  -- within the limits, a buffer has room for them
  pub built_room : SmallEnough (built_sheet list entries widths rows K table levels runs) → (n : ℕ) → 65536 ≤ n
      → length (flat_map (built_run list entries widths rows K table levels) (from 0 (runs * rows))) ≤ n
  built_room small n long =
      le_trans (rw (← built_runs, runs_length) (cells_few small.runs_most small.columns_most)) long

-- ---- the sheet in hand

pub sheet_stands : {list : List ℕ} {size : Size} {table levels scratch : List ℕ} → Ready list size table levels scratch → SheetStands table (take size.columns levels) size.runs
unfolding AllBelow AllLevels sheet_in table_of
sheet_stands {list} {size} {table} {levels} ready =
    record {
      within = rw (length-take-le size.columns levels (ready_few ready)) (ready_used ready);
      few = λ c h. omega (arith, (ready.sound.levels_within c h).1);
      in_range = ready.sound.array.in_range;
    }

-- ---- the sheet that is built takes its place

module _ {list entries widths : List ℕ} {rows : ℕ} (K : Table) {size : Size} {table levels scratch after : List ℕ} {built : ℕ}
    (ready : Ready list size table levels scratch) (stand : EntriesStand list rows entries widths)
    (small : SmallEnough (built_sheet list entries widths rows K table (take size.columns levels) size.runs))
    (put : Put scratch 0 (flat_map (built_run list entries widths rows K table (take size.columns levels)) (from 0 (size.runs * rows))) after built) where
  pub put_sheet : Put scratch 0 (runs_of (built_sheet list entries widths rows K table (take size.columns levels) size.runs)) after built
  put_sheet = rw (built_runs stand K table (take size.columns levels) size.runs) put

  pub scratch_holds : (built ≤ length after) × Zeros (drop built after)
  scratch_holds = (omega (arith, put.fits, put_length put), built_after _ ready.scratch_clear put_sheet)

  pub table_room : built ≤ length table
  table_room =
      le_trans
      (rw (put_sheet.ends, zero-add, runs_length) (cells_few small.runs_most small.columns_most))
      ready.long.table_long

-- ---- question 8

module _ (n : ℕ) (S : Table) (table levels : List ℕ) {runs many : ℕ} (e : runs ≡ S.runs) (f : many ≡ columns S) where
  pub left_small : runs ≤ 512 → many ≤ 128 → {table' levels' : List ℕ} {answer : Answer} → Holds S table' levels'
      → answer ≡ Filled runs many (spare_of runs (take many levels')) → Left (sized n S) table levels answer table' levels'
  unfolding sized Left
  left_small h k holds worked_out =
      let small : SmallEnough S = record { runs_most = rw (← e) h; columns_most = rw (← f) k } in
      rw (← true_is (small_enough S) ((size_decides S).1 small)) (held_answer holds e f worked_out, holds)

  pub left_large : (512 < runs) ⊎ (128 < many) → Left (sized n S) table levels (Refused (TooLarge n runs many)) table levels
  unfolding sized Left
  left_large large =
      let most : SmallEnough S → ⊥ =
      λ small. ⊎_elim (λ (h : 512 < runs). omega (arith, small.runs_most)) (λ (h : 128 < many). omega (arith, small.columns_most)) large
      in
      rw (← false_is (small_enough S) (λ t. most ((size_decides S).0 t))) (ap₂ (λ (x y : ℕ). Refused (TooLarge n x y)) e f, refl, refl)

module _ (list entries widths : List ℕ) (rows : ℕ) (K : Table) (table levels : List ℕ) (runs : ℕ) where
  pub built_columns : {summed adjoined : ℕ} → summed ≡ length (summed_levels widths levels) → adjoined ≡ columns K
      → summed + adjoined ≡ columns (built_sheet list entries widths rows K table levels runs)
  unfolding built_sheet
  built_columns e f = ap₂ ◌+◌ e f ∙ sym (length-append (summed_levels widths levels) K.levels)

-- sheets of one size, with the same runs and level counts in bytes, are left alike
module _ (n : ℕ) (A B : Table) (same_size : A.runs ≡ B.runs) (same_levels : A.levels ≡ B.levels) (same_runs : runs_of A ≡ runs_of B)
    (table levels : List ℕ) (answer : Answer) (table' levels' : List ℕ) where
  same_columns : columns A ≡ columns B
  same_columns = ap length same_levels

  left_branch : (b : Bool) → Left (cond b (filled A) (refused (TooLarge n A.runs (columns A)))) table levels answer table' levels'
      → Left (cond b (filled B) (refused (TooLarge n B.runs (columns B)))) table levels answer table' levels'
  unfolding Left
  left_branch true left = (
    left.0 ∙ ap₂ (λ (x : ℕ) (ls : List ℕ). Filled x (length ls) (spare_of x ls)) same_size same_levels,
    record {
      runs_first = left.1.runs_first ∙ ap (padded (length table')) same_runs;
      levels_first = left.1.levels_first ∙ ap (padded (length levels')) same_levels;
    },
  )
  left_branch false left = (left.0 ∙ ap₂ (λ (x y : ℕ). Refused (TooLarge n x y)) same_size same_columns, left.1, left.2)

  same_test : small_enough A ≡ small_enough B
  unfolding small_enough
  same_test = ap₂ (λ (x y : ℕ). leb x 512 && leb y 128) same_size same_columns

  pub left_same : Left (sized n A) table levels answer table' levels' → Left (sized n B) table levels answer table' levels'
  unfolding sized
  left_same left = rw same_test at (left_branch (small_enough A) left)
