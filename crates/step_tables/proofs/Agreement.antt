-- Tables that agree, in shape and in every cell, are even together and in range together. So a sheet that lies in bytes stands for the sheet of the
-- definitions.
-- Assumes nothing.
use mathlib.Core.Path.{◌≡◌, refl, sym, ◌∙◌, ap, ap₂}
use mathlib.Core.Bool.{◌&&◌}
use mathlib.Core.List.{List, [], ◌∷◌, map, Memᴰ}
use Prim.Native.Nat.{ℕ, ◌+◌, ◌*◌, ◌<◌}
use lib.Dec.{eqb, leb}
use lib.ListN.{length, get_or}
use Rattle.finite.specs.Sum.{count}
use Rattle.finite.proofs.Counts.{count_ext}
use Rattle.counting.specs.Table.{Table, columns, levels_of, table_of, Setting, shows, times, combinations, Settings, InRange, Even}
use Rattle.step_tables.specs.Sheet.{from_sources, OrthogonalArray, Agree, small_enough}

pub agree_refl : (A : Table) → Agree A A
agree_refl A = record { same_runs = refl; same_levels = refl; same_cells = λ r c h k. refl }

module _ {A B : Table} (alike : Agree A B) where
  pub agree_columns : columns A ≡ columns B
  agree_columns = ap length alike.same_levels

  pub agree_levels : (c : ℕ) → levels_of A c ≡ levels_of B c
  agree_levels c = ap (λ l. get_or l c 0) alike.same_levels

  -- a cell of the other table
  other_cell : (r c : ℕ) → r < B.runs → c < columns B → A.cell r c ≡ B.cell r c
  other_cell r c h k = alike.same_cells r c (rw alike.same_runs h) (rw agree_columns k)

  pub agree_sym : Agree B A
  agree_sym =
      record {
        same_runs = sym alike.same_runs;
        same_levels = sym alike.same_levels;
        same_cells = λ r c h k. sym (other_cell r c h k);
      }

  pub agree_trans : {C : Table} → Agree B C → Agree A C
  agree_trans next =
      record {
        same_runs = alike.same_runs ∙ next.same_runs;
        same_levels = alike.same_levels ∙ next.same_levels;
        same_cells = λ r c h k. alike.same_cells r c h k ∙ next.same_cells r c (rw (← alike.same_runs) h) (rw (← agree_columns) k);
      }

  -- ---- evenness

  pub agree_in_range : InRange A → InRange B
  unfolding InRange
  agree_in_range range r c h k =
      rw (← other_cell r c h k, ← agree_levels c) (range r c (rw alike.same_runs h) (rw agree_columns k))

  agree_settings : (xs : List Setting) → Settings B xs → Settings A xs
  unfolding Settings
  agree_settings [] s = tt
  agree_settings (x ∷ xs) s = (rw agree_columns s.0, rw (agree_levels x.column) s.1, s.2, agree_settings xs s.3)

  agree_combinations : (xs : List Setting) → combinations A xs ≡ combinations B xs
  unfolding combinations
  agree_combinations [] = refl
  agree_combinations (x ∷ xs) = ap₂ ◌*◌ (agree_levels x.column) (agree_combinations xs)

  agree_shows : (xs : List Setting) → Settings B xs → (r : ℕ) → r < B.runs → shows A xs r ≡ shows B xs r
  unfolding shows Settings
  agree_shows [] s r h = refl
  agree_shows (x ∷ xs) s r h =
      ap₂ ◌&&◌ (ap (λ v. eqb v x.level) (other_cell r x.column h s.0)) (agree_shows xs s.3 r h)

  pub agree_even : (g : ℕ) → Even g A → Even g B
  unfolding Even times
  agree_even g even xs few s =
      ap₂ ◌*◌ (sym (agree_combinations xs))
      (sym (count_ext B.runs (agree_shows xs s)) ∙ ap (λ n. count n (shows A xs)) (sym alike.same_runs))
      ∙ even xs few (agree_settings xs s)
      ∙ alike.same_runs

  pub agree_array : (g : ℕ) → OrthogonalArray g A → OrthogonalArray g B
  agree_array g array = record { even = agree_even g array.even; in_range = agree_in_range array.in_range }

  -- ---- question 8

  pub agree_size : small_enough A ≡ small_enough B
  unfolding small_enough
  agree_size = ap₂ (λ n l. leb n 512 && leb (length l) 128) alike.same_runs alike.same_levels

-- the table that lies in bytes
pub agree_bytes : (bytes : List ℕ) (S : Table)
    → ((r c : ℕ) → r < S.runs → c < columns S → S.cell r c ≡ get_or bytes (r * columns S + c) 0) → Agree S (table_of bytes S.levels S.runs)
unfolding table_of
agree_bytes bytes S cells = record { same_runs = refl; same_levels = refl; same_cells = cells }

-- functions that agree on a list
map_same : {A B : Type 0} {f g : A → B} (xs : List A) → ((x : A) → Memᴰ x xs → f x ≡ g x) → map f xs ≡ map g xs
map_same [] same = refl
map_same (x ∷ xs) same = ap₂ ◌∷◌ (same x (Memᴰ.head refl)) (map_same xs (λ y m. same y (Memᴰ.tail m)))

-- tables of one list of sources, where level counts and levels are the same for each source
pub sources_agree : {A : Type 0} {N M : ℕ} {levels levels' : A → ℕ} {value value' : ℕ → A → ℕ} {sources sources' : List A}
    → N ≡ M → sources ≡ sources'
    → ((a : A) → Memᴰ a sources → levels a ≡ levels' a)
    → ((r : ℕ) (a : A) → r < N → Memᴰ a sources → value r a ≡ value' r a)
    → Agree (from_sources N levels value sources) (from_sources M levels' value' sources')
unfolding from_sources
sources_agree {levels' = levels'} {value' = value'} {sources = sources} runs same as_many values =
    record {
      same_runs = runs;
      same_levels = map_same sources as_many ∙ ap (map levels') same;
      same_cells = λ r c h k. ap (λ l. get_or l c 0) (map_same sources (λ a m. values r a h m) ∙ ap (map (value' r)) same);
    }
