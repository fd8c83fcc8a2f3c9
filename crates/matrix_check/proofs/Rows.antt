-- A row of a matrix: what its entries in two columns look up is their difference.
-- Assumes nothing.
use mathlib.Core.Path.{◌≡◌}
use mathlib.Core.List.{List}
use Prim.Native.Nat.{ℕ, ◌+◌, ◌*◌, ◌<◌}
use native.Mathlib.Nat.{le_trans, lt_of_lt_of_le, mul-le-mul}
use lib.Arith.{digits_lt}
use lib.Dec.{lit≤}
use lib.ListN.{get_or}
use Rattle.finite.proofs.Tabulated.{looked_up}
use Rattle.galois.specs.Levels.{level_difference}
use Rattle.galois.proofs.Levels.{level_difference_below}
use Rattle.counting.specs.Checkable.{CheckableMatrix}
use Rattle.counting.specs.Matrix.{matrix_of, row_difference, MatrixInRange}
use Rattle.matrix_check.specs.Differences.{DifferencesOf}

module _ {entries : List ℕ} {rows columns p : ℕ} (ok : CheckableMatrix entries rows columns p) where
  -- a difference has its counter
  pub difference_counted : (first second r : ℕ) → row_difference (matrix_of entries rows columns p) first second r < 4096
  unfolding row_difference matrix_of
  difference_counted first second r =
      lt_of_lt_of_le (level_difference_below _ _ _ (le_trans (lit≤ tt) ok.modulus_from)) (le_trans ok.modulus_to (lit≤ tt))

  module _ {row : ℕ} (within : row < rows) where
    entry_below : {column : ℕ} → column < columns → get_or entries (row * columns + column) 0 < p
    unfolding MatrixInRange matrix_of
    entry_below h = ok.in_range row _ within h

    module _ {first second : ℕ} (first_in : first < columns) (second_in : second < columns) where
      pub row_place : get_or entries (row * columns + first) 0 * p + get_or entries (row * columns + second) 0 < 4096
      row_place = lt_of_lt_of_le (digits_lt (entry_below first_in) (entry_below second_in)) (mul-le-mul ok.modulus_to ok.modulus_to)

      pub row_found : {differences : List ℕ} → DifferencesOf p (p * p) differences
          → get_or differences (get_or entries (row * columns + first) 0 * p + get_or entries (row * columns + second) 0) 0
          ≡ row_difference (matrix_of entries rows columns p) first second row
      unfolding row_difference matrix_of
      row_found differences_of = looked_up (level_difference p) p differences_of (entry_below first_in) (entry_below second_in)
