-- The step SUM r, d1 .. dr, k (a Kronecker sum with difference matrices, with the columns of a further table adjoined; 000 sections 2 and 3, 001):
-- document 01, "Steps by kind" and question 6. Columns count from 0 here.
use Rattle.std.specs.Prelude.{◌≡◌, Bool, cond, ◌&&◌, ℕ, ◌*◌, ◌/◌, ◌%◌, eqb}
use mathlib.Core.List.{List, [], ◌∷◌, ◌++◌, map, flat_map, Memᴰ}
use Rattle.std.proofs.Math.Option.{Option, none, some}
use Rattle.finite.specs.Lists.{from}
use Rattle.galois.specs.Arithmetic.{member}
unfoldable pub use Rattle.galois.specs.Levels.{level_sum}
use Rattle.counting.specs.Matrix.{Matrix, MatrixInRange, DifferenceMatrix}
use Rattle.counting.specs.Table.{Table, columns, levels_of}
use Rattle.step_tables.specs.Lists.{Distinct, all_of, all_different}
use Rattle.step_tables.specs.Sheet.{from_sources}

-- p
abbrev pub modulus_of : Matrix → ℕ
modulus_of D = D.modulus

-- a difference matrix with every entry in range
pub record PassingMatrix (D : Matrix) : Type 0 where
  pub in_range : MatrixInRange D
  pub differences : DifferenceMatrix D

-- M, the rows of the matrices
unfoldable pub rows_of : List Matrix → ℕ
rows_of [] = 0
rows_of (D ∷ Ds) = D.rows

-- the matrix whose p is s
unfoldable pub serving : List Matrix → ℕ → Option Matrix
serving [] s = none
serving (D ∷ Ds) s = cond (eqb D.modulus s) (some D) (serving Ds s)

-- the table to adjoin: k, or for none a table with no columns
unfoldable pub adjoined_table : ℕ → Option Table → Table
adjoined_table M none = record { runs = M; levels = []; cell = λ y c. 0 }
adjoined_table M (some K) = K

-- a column of the next sheet is the sum of sheet column j and column c of the matrix that serves it, or a column of k
pub data SumSource : Type 0 where
  summed : ℕ → Matrix → ℕ → SumSource
  adjoined : ℕ → SumSource

-- the sums of sheet column j with each column of a matrix
unfoldable pub summed_with : ℕ → Option Matrix → List SumSource
summed_with j none = []
summed_with j (some D) = map (summed j D) (from 0 D.columns)

-- and how many they are
unfoldable pub summed_columns : Option Matrix → ℕ
summed_columns none = 0
summed_columns (some D) = D.columns

-- what stands in the place of column j
unfoldable pub sum_place : List Matrix → Table → ℕ → List SumSource
sum_place Ds S j = summed_with j (serving Ds (levels_of S j))

-- and k's columns at the end
unfoldable pub sum_sources : List Matrix → Table → Table → List SumSource
sum_sources Ds K S = flat_map (sum_place Ds S) (from 0 (columns S)) ++ map adjoined (from 0 (columns K))

-- p for the sums, and k's own for k's columns
unfoldable pub sum_levels : Table → SumSource → ℕ
sum_levels K (summed j D c) = D.modulus
sum_levels K (adjoined c) = levels_of K c

-- the group's sum, for each p; `level_sum` is 02's
module _ (plus : ℕ → ℕ → ℕ → ℕ) where
  -- the level in sheet run i and matrix row y
  unfoldable pub sum_entry : Table → Table → ℕ → ℕ → SumSource → ℕ
  sum_entry K S i y (summed j D c) = plus D.modulus (S.cell i j) (D.entry y c)
  sum_entry K S i y (adjoined c) = K.cell y c

  -- sheet run i and matrix row y make run i × M + y
  unfoldable pub sum_value : ℕ → Table → Table → ℕ → SumSource → ℕ
  sum_value M K S r = sum_entry K S (r / M) (r % M)

  -- SUM Ds, where the adjoined table is K and the sheet is S
  unfoldable pub sum_step : List Matrix → Table → Table → Table
  sum_step Ds K S = from_sources (S.runs * rows_of Ds) (sum_levels K) (sum_value (rows_of Ds) K S) (sum_sources Ds K S)

-- question 6: matrices of equal rows M and different p, every level count on the sheet served, k of M runs
pub record SumFits (Ds : List Matrix) (K S : Table) : Type 0 where
  pub equal_rows : (D : Matrix) → Memᴰ D Ds → D.rows ≡ rows_of Ds
  pub different : Distinct (map modulus_of Ds)
  pub served : (s : ℕ) → Memᴰ s S.levels → Memᴰ s (map modulus_of Ds)
  pub adjoined_runs : K.runs ≡ rows_of Ds

-- the same as a test
unfoldable pub sum_fits : List Matrix → Table → Table → Bool
sum_fits Ds K S =
    all_of (λ D. eqb D.rows (rows_of Ds)) Ds
    && all_different (map modulus_of Ds)
    && all_of (λ s. member s (map modulus_of Ds)) S.levels
    && eqb K.runs (rows_of Ds)
