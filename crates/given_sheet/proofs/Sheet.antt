-- A well-formed sheet, read off its two buffers: its columns, its level counts and its levels.
-- Assumes nothing.
use mathlib.Core.Path.{◌≡◌, ap}
use mathlib.Core.List.{List}
use Prim.Native.Nat.{ℕ, ◌+◌, ◌*◌, ◌<◌}
use lib.ListN.{get_or}
use lib.Seq.{length-take-le, get_or-take}
use Rattle.counting.specs.Table.{columns, levels_of, table_of}
use Rattle.given_sheet.specs.Given.{WellFormed, given_sheet}

module _ {N m : ℕ} {levels table : List ℕ} (sheet : WellFormed N m levels table) where
  pub given_columns : columns (given_sheet N m levels table) ≡ m
  unfolding given_sheet table_of
  given_columns = length-take-le m levels sheet.counts_there

  pub given_count : {c : ℕ} → c < m → levels_of (given_sheet N m levels table) c ≡ get_or levels c 0
  unfolding given_sheet table_of
  given_count {c} h = get_or-take m levels c 0 h

  pub given_level : (r c : ℕ) → (given_sheet N m levels table).cell r c ≡ get_or table (r * m + c) 0
  unfolding given_sheet table_of
  given_level r c = ap (λ (k : ℕ). get_or table (r * k + c) 0) given_columns
