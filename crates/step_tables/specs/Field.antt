-- Step 2, FIELD: the table that a generator makes (document 01, "Steps by kind"; the orthogonal array of Theorem 2.1 of 004).
use Rattle.std.specs.Prelude.{List, map, ℕ, ◌^◌}
use Rattle.finite.specs.Digits.{digits, numeral}
use Rattle.finite.specs.Lists.{from}
use Rattle.galois.specs.Combination.{combination}
use Rattle.counting.specs.Generator.{Generator, factor_columns}
use Rattle.counting.specs.Table.{Table}

-- the t field elements of column c, first coordinate first
unfoldable pub column_elements : Generator → ℕ → List ℕ
column_elements G c = map (λ r. G.entry r c) (from 0 G.coordinates)

-- a field's sum and product
module _ (plus times : ℕ → ℕ → ℕ) where
  -- a tuple times each of the columns: the sum of its coordinates' products with the column's elements
  unfoldable pub values : Generator → List ℕ → List ℕ → List ℕ
  values G tuple cs = map (λ c. combination plus times tuple (column_elements G c)) cs

  -- Runs are all t-tuples in counting order, first coordinate slowest. Factor i has s ^ u_i levels: its u_i values, the tuple times its
  -- columns, are read as one base-s number, first value highest.
  unfoldable pub field_table : Generator → Table
  field_table G =
      record {
        runs = G.size ^ G.coordinates;
        levels = map (λ u. G.size ^ u) G.widths;
        cell = λ r i. numeral G.size (values G (digits G.size G.coordinates r) (factor_columns G.widths i));
      }
