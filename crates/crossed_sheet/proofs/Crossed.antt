-- The sheet with h's columns after its own: its runs and level counts, and that it is the sheet of step 6 where it is made from the one of SUM.
-- Assumes nothing.
use mathlib.Core.Path.{◌≡◌, refl, sym, ◌∙◌, ap}
use mathlib.Core.List.{List, ◌++◌, map, flat_map}
use Prim.Native.Nat.{ℕ, ◌+◌, ◌*◌, ◌/◌}
use native.Mathlib.Omega.{arith}
use lib.ListN.{length, get_or, length-append}
use Rattle.finite.specs.Lists.{from}
use Rattle.counting.specs.Matrix.{Matrix}
use Rattle.counting.specs.Table.{Table, columns}
use Rattle.step_tables.specs.Sheet.{from_sources, Agree}
use Rattle.step_tables.specs.Sum.{rows_of, sum_sources, sum_levels, sum_value, sum_step}
use Rattle.step_tables.specs.Cross.{cross_step}
use Rattle.step_tables.proofs.Lists.{map_get_d}
use Rattle.step_tables.proofs.Agreement.{agree_sym, agree_trans}
use Rattle.step_tables.proofs.Cross.{cross_run, cross_level_list}
use Rattle.layout.specs.Bytes.{run_of, runs_of, Holds}
use Rattle.layout.proofs.Bytes.{flat_map_same, run_sources, run_length}
use Rattle.layout.proofs.Sheets.{run_agrees, agree_holds}
use Rattle.crossed_sheet.specs.Crossing.{crossed_run, crossed_sheet}

module _ (M : ℕ) (H A : Table) where
  pub crossed_columns : columns (crossed_sheet M H A) ≡ columns A + columns H
  unfolding crossed_sheet
  crossed_columns = length-append A.levels H.levels

  run_long : (r : ℕ) → length (crossed_run M H A r) ≡ columns A + columns H
  unfolding crossed_run
  run_long r = simp (length-append, run_length) (omega arith)

  -- a run of it, level by level
  crossed_run_lem : (r : ℕ) → run_of (crossed_sheet M H A) r ≡ crossed_run M H A r
  unfolding run_of crossed_sheet
  crossed_run_lem r =
      ap (λ (n : ℕ). map (λ c. get_or (crossed_run M H A r) c 0) (from 0 n)) (crossed_columns ∙ sym (run_long r))
      ∙ map_get_d (crossed_run M H A r) 0

  pub crossed_runs : runs_of (crossed_sheet M H A) ≡ flat_map (crossed_run M H A) (from 0 A.runs)
  unfolding runs_of crossed_sheet
  crossed_runs = flat_map_same (run_of (crossed_sheet M H A)) (crossed_run M H A) A.runs (λ r h. crossed_run_lem r)

-- made from sheets that agree, it agrees
pub crossed_agrees : (M : ℕ) (H : Table) {A B : Table} → Agree A B → Agree (crossed_sheet M H A) (crossed_sheet M H B)
unfolding crossed_sheet crossed_run
crossed_agrees M H alike =
    record {
      same_runs = alike.same_runs;
      same_levels = ap (λ (ls : List ℕ). ls ++ H.levels) alike.same_levels;
      same_cells = λ r c h k. rw (run_agrees alike r h);
    }

-- ---- the sheet of step 6

module _ (plus : ℕ → ℕ → ℕ → ℕ) (Ds : List Matrix) (K H S : Table) where
  pub cross_meets : Agree (cross_step plus Ds K H S) (crossed_sheet (rows_of Ds) H (sum_step plus Ds K S))
  unfolding cross_step sum_step from_sources crossed_sheet crossed_run run_of
  cross_meets =
      let M = rows_of Ds in
      record {
        same_runs = refl;
        same_levels = cross_level_list plus Ds K H S;
        same_cells = λ r c h k.
            ap (λ (xs : List ℕ). get_or xs c 0)
            (cross_run plus Ds K H S M r
            ∙ ap (λ (xs : List ℕ). xs ++ map (H.cell (r / M)) (from 0 (columns H)))
            (sym (run_sources (S.runs * M) (sum_levels K) (sum_value plus M K S) (sum_sources Ds K S) r)));
      }

  -- so where it is made from a sheet that agrees with SUM's, the buffers hold the sheet of step 6
  pub cross_holds : {A : Table} → Agree A (sum_step plus Ds K S) → {table levels : List ℕ}
      → Holds (crossed_sheet (rows_of Ds) H A) table levels → Holds (cross_step plus Ds K H S) table levels
  cross_holds alike holds = agree_holds (agree_trans (crossed_agrees (rows_of Ds) H alike) (agree_sym cross_meets)) holds
