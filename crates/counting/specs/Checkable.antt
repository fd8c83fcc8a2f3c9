-- What the checks take: cells in bytes, within 01's limits on sizes, every entry in its range (question 3 comes before question 4).
use Rattle.std.specs.Prelude.{ℕ, ◌*◌, ◌^◌, ◌≤◌, ◌<◌, T, List, length, get_or}
use Rattle.galois.specs.Arithmetic.{field_size}
use Rattle.counting.specs.Table.{table_of, InRange}
use Rattle.counting.specs.Generator.{width, generator_of, ElementsInRange}
use Rattle.counting.specs.Matrix.{matrix_of, MatrixInRange}

-- the bytes hold the runs of a table
pub record CheckableTable (cells levels : List ℕ) (runs : ℕ) : Type 0 where
  pub whole : runs * length levels ≤ length cells
  pub few : runs ≤ 512
  pub narrow : length levels ≤ 128
  pub levels_from : (c : ℕ) → c < length levels → 2 ≤ get_or levels c 0
  pub levels_to : (c : ℕ) → c < length levels → get_or levels c 0 ≤ 64
  pub in_range : InRange (table_of cells levels runs)

-- the bytes hold the rows of a matrix
pub record CheckableMatrix (entries : List ℕ) (rows columns p : ℕ) : Type 0 where
  pub whole : rows * columns ≤ length entries
  pub few : rows ≤ 512
  pub narrow : columns ≤ 128
  pub modulus_from : 2 ≤ p
  pub modulus_to : p ≤ 64
  pub in_range : MatrixInRange (matrix_of entries rows columns p)

-- the bytes hold the rows of a generator
pub record CheckableGenerator (entries : List ℕ) (t s : ℕ) (widths : List ℕ) : Type 0 where
  pub whole : t * width widths ≤ length entries
  pub size : T (field_size s)
  pub few : length widths ≤ 128
  pub powers : (i : ℕ) → i < length widths → s ^ get_or widths i 0 ≤ 64
  pub in_range : ElementsInRange (generator_of entries t s widths)
