-- A sheet that is not refused has room on its pages.
-- Assumes nothing.
use mathlib.Core.List.{List}
use Prim.Native.Nat.{ℕ, ◌<◌}
use native.Mathlib.Omega.{arith}
use Rattle.counting.specs.Table.{InRange, table_of}
use Rattle.given_sheet.specs.Given.{WellFormed, given_sheet}
use Rattle.given_sheet.proofs.Sheet.{given_columns, given_count, given_level}
use Rattle.page_text.specs.Pages.{HasRoom}

pub given_room : {N m : ℕ} {levels table : List ℕ} → WellFormed N m levels table → HasRoom (given_sheet N m levels table)
unfolding InRange given_sheet table_of
given_room {N} {m} {levels} {table} sheet =
    let many = given_columns sheet in
    record {
      runs_most = sheet.runs_most;
      columns_most = rw many sheet.columns_most;
      counts_most = λ c h. let k : c < m = omega (arith, many) in rw (given_count sheet k) (sheet.counts_most c k);
      in_range = λ r c h k. let l : c < m = omega (arith, many) in rw (given_level sheet r c, given_count sheet l) (sheet.in_range r c h l);
    }
