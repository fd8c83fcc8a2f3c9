-- Difference matrices: document 01, "What is counted", after 000, with the differences of 02, K2.
use Rattle.std.specs.Prelude.{◌≡◌, ℕ, ◌+◌, ◌*◌, ◌<◌, List, eqb, get_or}
use Rattle.finite.specs.Sum.{count}
use Rattle.galois.specs.Levels.{level_difference}

-- M rows, k columns, the number p, and the entry in a row and a column, both from 0
pub record Matrix : Type 0 where
  pub rows : ℕ
  pub columns : ℕ
  pub modulus : ℕ
  pub entry : ℕ → ℕ → ℕ

-- the matrix whose rows lie one after the other in a list of bytes
unfoldable pub matrix_of : List ℕ → ℕ → ℕ → ℕ → Matrix
matrix_of entries rows columns p =
    record { rows = rows; columns = columns; modulus = p; entry = λ r c. get_or entries (r * columns + c) 0 }

-- column c minus column d in row r
unfoldable pub row_difference : Matrix → ℕ → ℕ → ℕ → ℕ
row_difference D c d r = level_difference D.modulus (D.entry r c) (D.entry r d)

-- in how many rows column c minus column d is v
unfoldable pub differences : Matrix → ℕ → ℕ → ℕ → ℕ
differences D c d v = count D.rows (λ r. eqb (row_difference D c d r) v)

-- every entry is one of 0 to p - 1
unfoldable pub MatrixInRange : Matrix → Type 0
MatrixInRange D = (r c : ℕ) → r < D.rows → c < D.columns → D.entry r c < D.modulus

-- For every two columns the differences, first minus second, take each value exactly M ÷ p times. One column always passes.
unfoldable pub DifferenceMatrix : Matrix → Type 0
DifferenceMatrix D =
    (c d v : ℕ) → c < d → d < D.columns → v < D.modulus → D.modulus * differences D c d v ≡ D.rows
