-- Step 6, called CROSS r, d1 .. dr, k, h here (02, K6): SUM, with a table h on the other side, whose columns follow the old runs (Theorem 1 of 001).
-- k's columns follow the rows of the matrices, so each run of k meets each run of h: the two are crossed, in the term of the field.
-- Columns, and the matrices of the step's list, count from 0 here.
use Rattle.std.specs.Prelude.{◌≡◌, ◌≢◌, Bool, cond, ◌&&◌, ℕ, ◌*◌, ◌/◌, ◌<◌, eqb, length}
use mathlib.Core.List.{List, ◌++◌, map, Memᴰ}
use Rattle.std.proofs.Math.Option.{Option, none, some, bind}
use Rattle.std.proofs.Math.ListN.{get_elem?}
use Rattle.finite.specs.First.{first}
use Rattle.finite.specs.Lists.{from}
use Rattle.finite.specs.Sum.{count}
use Rattle.galois.specs.Arithmetic.{member}
use Rattle.counting.specs.Matrix.{Matrix}
use Rattle.counting.specs.Table.{Table, columns, levels_of}
use Rattle.step_tables.specs.Sheet.{from_sources}
use Rattle.step_tables.specs.Sum.{rows_of, SumSource, sum_sources, sum_levels, sum_value, SumFits, sum_fits}

-- a column of the next sheet is one of SUM's or a column of h
pub data CrossSource : Type 0 where
  of_sum : SumSource → CrossSource
  following : ℕ → CrossSource

-- SUM's columns, and then h's
unfoldable pub cross_sources : List Matrix → Table → Table → Table → List CrossSource
cross_sources Ds K H S = map of_sum (sum_sources Ds K S) ++ map following (from 0 (columns H))

-- SUM's level counts, and h's own for h's columns
unfoldable pub cross_levels : Table → Table → CrossSource → ℕ
cross_levels K H (of_sum a) = sum_levels K a
cross_levels K H (following c) = levels_of H c

-- the group's sum, for each p
module _ (plus : ℕ → ℕ → ℕ → ℕ) where
  -- old run i and matrix row y make run i × M + y: h's columns are taken at i
  unfoldable pub cross_value : ℕ → Table → Table → Table → ℕ → CrossSource → ℕ
  cross_value M K H S r (of_sum a) = sum_value plus M K S r a
  cross_value M K H S r (following c) = H.cell (r / M) c

  -- CROSS Ds, where the adjoined table is K, the one on the other side H and the sheet S
  unfoldable pub cross_step : List Matrix → Table → Table → Table → Table
  cross_step Ds K H S =
      from_sources (S.runs * rows_of Ds) (cross_levels K H) (cross_value (rows_of Ds) K H S) (cross_sources Ds K H S)

-- question 6: SUM's, and h of N runs, as many as the sheet before the step
pub record CrossFits (Ds : List Matrix) (K H S : Table) : Type 0 where
  pub as_sum : SumFits Ds K S
  pub other_runs : H.runs ≡ S.runs

-- the same as a test
unfoldable pub cross_fits : List Matrix → Table → Table → Table → Bool
cross_fits Ds K H S = sum_fits Ds K S && eqb H.runs S.runs

-- in how many rows column c of a matrix holds v
unfoldable pub value_times : Matrix → ℕ → ℕ → ℕ
value_times D c v = count D.rows (λ y. eqb (D.entry y c) v)

-- each column holds each value exactly M ÷ p times
unfoldable pub EvenColumns : Matrix → Type 0
EvenColumns D = (c v : ℕ) → c < D.columns → v < D.modulus → D.modulus * value_times D c v ≡ D.rows

-- the matrix serves a column of the sheet: its p is the level count of one
abbrev pub ServesSheet : Table → Matrix → Type 0
ServesSheet S D = Memᴰ D.modulus S.levels

-- between questions 6 and 7: each column of every matrix that serves a sheet column holds each value M ÷ p times
unfoldable pub ServingEven : List Matrix → Table → Type 0
ServingEven Ds S = (D : Matrix) → Memᴰ D Ds → ServesSheet S D → EvenColumns D

-- a matrix, by its place in the step's list, a column of it and a value
pub record ValueFault : Type 0 where
  pub place : ℕ
  pub column : ℕ
  pub value : ℕ

-- value v of column c of the matrix in place q, where it does not stand M ÷ p times
unfoldable pub value_fault_at : ℕ → Matrix → ℕ → ℕ → Option ValueFault
value_fault_at q D c v =
    cond (eqb (D.modulus * value_times D c v) D.rows) none (some (record { place = q; column = c; value = v }))

-- the lowest column of the matrix in place q, and the lowest value in it, that is uneven
unfoldable pub matrix_fault : ℕ → Matrix → Option ValueFault
matrix_fault q D = first D.columns (λ c. first D.modulus (value_fault_at q D c))

-- a matrix that serves none of the sheet's level counts is not asked
unfoldable pub served_fault : List ℕ → ℕ → Matrix → Option ValueFault
served_fault levels q D = cond (member D.modulus levels) (matrix_fault q D) none

-- the first serving matrix in the step's list with an uneven column, the lowest such column and the lowest value in it
unfoldable pub serving_fault : List Matrix → List ℕ → Option ValueFault
serving_fault Ds levels = first (length Ds) (λ q. bind (get_elem? Ds q) (served_fault levels q))

-- f is a failure: a serving matrix, and a value that does not stand M ÷ p times in a column of it; and no serving matrix before it in the list, no
-- column before it in the matrix and no value before it in the column is one
pub record FirstUneven (Ds : List Matrix) (S : Table) (f : ValueFault) : Type 0 where
  pub matrix : Matrix
  pub stands : get_elem? Ds f.place ≡ some matrix
  pub serves : ServesSheet S matrix
  pub column_below : f.column < matrix.columns
  pub value_below : f.value < matrix.modulus
  pub fails : matrix.modulus * value_times matrix f.column f.value ≢ matrix.rows
  pub matrices_before : (q : ℕ) (D : Matrix) → q < f.place → get_elem? Ds q ≡ some D → ServesSheet S D → EvenColumns D
  pub columns_before : (c v : ℕ) → c < f.column → v < matrix.modulus → matrix.modulus * value_times matrix c v ≡ matrix.rows
  pub values_before : (v : ℕ) → v < f.value → matrix.modulus * value_times matrix f.column v ≡ matrix.rows
