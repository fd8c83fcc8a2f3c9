-- What SUM reads where it stands in the list, and the bytes that it writes: document 01, "Steps by kind", step 3, and questions 5 and 6.
-- Two arrays hold, for each p, the place where the entries of the matrix that serves p start in the list, and how many columns it has: 0 where
-- no matrix serves p.
use Rattle.std.specs.Prelude.{◌≡◌, Bool, true, false, cond, ◌&&◌, ◌||◌, not, ℕ, zero, suc, ◌+◌, ◌*◌, ◌/◌, ◌%◌, ◌≤◌, ◌<◌, eqb, ltb, length, get_or, take, drop, replicate, Some, None}
use Rattle.std.specs.Prelude as Prelude
use mathlib.Core.List.{List, ◌++◌, map, flat_map}
use Rattle.std.proofs.Math.Option.{Option, none, some}
use Rattle.finite.specs.Lists.{from, AllBelow}
use Rattle.galois.specs.Arithmetic.{member}
use Rattle.counting.specs.Matrix.{Matrix, matrix_of}
use Rattle.counting.specs.Table.{Table, columns, table_of, InRange}
use Rattle.order.specs.Order.{All}
use Rattle.order.specs.Grammar.{read_order}
use Rattle.order.specs.declared.Located.{Located}
use Rattle.order.specs.declared.Located.TheVariants.{Table as TableAt, Matrix as MatrixAt, Generator as GeneratorAt}
use Rattle.places.specs.Places.{ingredient_at, matrices_from, adjoined_from}
use Rattle.step_tables.specs.Lists.{all_of, all_different}
use Rattle.step_tables.specs.Sum.{level_sum, modulus_of, serving}
use Rattle.ingredients.specs.Named.{named_table, table_in}
use Rattle.ingredients.specs.declared.named.NamedTable.{NamedTable}
use Rattle.ingredients.specs.declared.named.NamedTable.TheVariants.{Own, House, Missing}
use Rattle.layout.specs.Bytes.{run_of}
use Rattle.layout.specs.declared.Size.{Size}
use Rattle.sum_bytes.specs.declared.MatrixPlace.{MatrixPlace}

-- the matrix that a look-up found, by its places in the list; any other ingredient is none
unfoldable pub matrix_place : Prelude.Option Located → MatrixPlace
matrix_place (Some (TableAt rows columns levels_at entries_at)) = record { rows = 0; columns = 0; p = 0; start = 0 }
matrix_place (Some (MatrixAt rows columns p entries_at)) = record { rows = rows; columns = columns; p = p; start = entries_at }
matrix_place (Some (GeneratorAt t n s widths_at width entries_at)) = record { rows = 0; columns = 0; p = 0; start = 0 }
matrix_place None = record { rows = 0; columns = 0; p = 0; start = 0 }

-- the matrix that stands there
unfoldable pub placed_matrix : List ℕ → MatrixPlace → Matrix
placed_matrix list m = matrix_of (take (m.rows * m.columns) (drop m.start list)) m.rows m.columns m.p

-- the matrix that a number names, and those that some numbers name
unfoldable pub matrix_at : List ℕ → ℕ → Matrix
matrix_at list d = placed_matrix list (matrix_place (ingredient_at (read_order list) d))

unfoldable pub matrices_at : List ℕ → List ℕ → List Matrix
matrices_at list ds = map (matrix_at list) ds

-- the number names no table
unfoldable pub is_missing : NamedTable → Bool
is_missing (Own rows columns levels_at entries_at) = false
is_missing (House number) = false
is_missing Missing = true

-- the operands of SUM from place at on, with which those of CROSS begin: r, d1 .. dr and k stand in the list, and each d is from 1 on
pub record SumOperands (list : List ℕ) (at : ℕ) : Type 0 where
  pub some_matrices : 1 ≤ get_or list at 0
  pub within : at + 1 + get_or list at 0 < length list
  pub numbered : All (λ d. 1 ≤ d) (matrices_from list at)

-- question 5 of these operands: each d names a matrix, and k a table or, if it is 0, none; what k names then
unfoldable pub summands_of : List ℕ → ℕ → Prelude.Option NamedTable
summands_of list at =
    let k = named_table (read_order list) (adjoined_from list at) in
    cond
    (all_of (λ d. ltb 0 (matrix_at list d).rows) (matrices_from list at) && (eqb (adjoined_from list at) 0 || not (is_missing k)))
    (Some k)
    None

-- question 6, of the matrices alone: equal rows and different p
unfoldable pub fit_together : ℕ → List Matrix → Bool
fit_together rows Ds = all_of (λ D. eqb D.rows rows) Ds && all_different (map modulus_of Ds)

-- question 6 whole, of the sheet's level counts: every level count served, and k of M runs
unfoldable pub parts_fit : ℕ → List Matrix → Table → List ℕ → Bool
parts_fit rows Ds K levels = fit_together rows Ds && all_of (λ s. member s (map modulus_of Ds)) levels && eqb K.runs rows

-- the matrix that has so many rows and columns and its entries from a place on, if it has any columns
unfoldable pub matrix_from : List ℕ → ℕ → ℕ → ℕ → ℕ → Option Matrix
matrix_from list rows at zero p = none
matrix_from list rows at (suc width) p = some (matrix_of (take (rows * suc width) (drop at list)) rows (suc width) p)

-- the arrays are full, and what they tell of stands within the list and is below its p
pub record EntriesStand (list : List ℕ) (rows : ℕ) (entries widths : List ℕ) : Type 0 where
  pub entries_full : length entries ≡ 65
  pub widths_full : length widths ≡ 65
  pub within : (s : ℕ) → get_or entries s 0 + rows * get_or widths s 0 ≤ length list
  pub below : (s q : ℕ) → q < rows * get_or widths s 0 → get_or list (get_or entries s 0 + q) 0 < s

-- the arrays have the matrices that serve each p
pub record Serves (list : List ℕ) (Ds : List Matrix) (rows : ℕ) (entries widths : List ℕ) : Type 0 where
  pub stand : EntriesStand list rows entries widths
  pub serves : (s : ℕ) → serving Ds s ≡ matrix_from list rows (get_or entries s 0) (get_or widths s 0) s

-- the level counts of the summed columns: s, for each column of the matrix that serves s
unfoldable pub summed_levels : List ℕ → List ℕ → List ℕ
summed_levels widths levels = flat_map (λ s. replicate (get_or widths s 0) s) levels

-- row y of the matrix that serves s
unfoldable pub served_row : List ℕ → List ℕ → List ℕ → ℕ → ℕ → List ℕ
served_row list entries widths y s = take (get_or widths s 0) (drop (get_or entries s 0 + y * get_or widths s 0) list)

-- the sums of column j of a sheet run with row y of the matrix that serves its level count
unfoldable pub summed_cells : List ℕ → List ℕ → List ℕ → ℕ → List ℕ → List ℕ → ℕ → List ℕ
summed_cells list entries widths y levels cells j = map (level_sum (get_or levels j 0) (get_or cells j 0)) (served_row list entries widths y (get_or levels j 0))

-- and those of all columns
unfoldable pub summed_run : List ℕ → List ℕ → List ℕ → ℕ → List ℕ → List ℕ → List ℕ
summed_run list entries widths y levels cells = flat_map (summed_cells list entries widths y levels cells) (from 0 (length levels))

-- row y of each matrix stands within the list, with every entry below its p
pub record RowStands (list entries widths : List ℕ) (y : ℕ) : Type 0 where
  pub entries_full : length entries ≡ 65
  pub widths_full : length widths ≡ 65
  pub within : (s : ℕ) → get_or entries s 0 + y * get_or widths s 0 + get_or widths s 0 ≤ length list
  pub below : (s : ℕ) → AllBelow s (served_row list entries widths y s)

-- a run of the sheet: each level below its column's level count, and those at most 64
pub record RunStands (levels cells : List ℕ) : Type 0 where
  pub whole : length cells ≡ length levels
  pub few : AllBelow 65 levels
  pub in_range : (j : ℕ) → j < length levels → get_or cells j 0 < get_or levels j 0

-- run r of the sheet that SUM builds, where the adjoined table is K: sheet run r / M and matrix row r % M
unfoldable pub built_run : List ℕ → List ℕ → List ℕ → ℕ → Table → List ℕ → List ℕ → ℕ → List ℕ
built_run list entries widths rows K table levels r =
    summed_run list entries widths (r % rows) levels (take (length levels) (drop (r / rows * length levels) table)) ++ run_of K (r % rows)

-- the sheet that lies in some bytes: within them, its level counts at most 64, every level in range
pub record SheetStands (table levels : List ℕ) (runs : ℕ) : Type 0 where
  pub within : runs * length levels ≤ length table
  pub few : AllBelow 65 levels
  pub in_range : InRange (table_of table levels runs)

-- the sheet that SUM builds: each of the sheet's runs with each row, and the level counts of the summed and of the adjoined columns
unfoldable pub built_sheet : List ℕ → List ℕ → List ℕ → ℕ → Table → List ℕ → List ℕ → ℕ → Table
built_sheet list entries widths rows K table levels runs =
    record {
      runs = runs * rows;
      levels = summed_levels widths levels ++ K.levels;
      cell = λ r c. get_or (built_run list entries widths rows K table levels r) c 0;
    }

-- the same from the sheet of a size in the buffers, with the table that was named
abbrev pub next_sheet : List ℕ → List ℕ → List ℕ → ℕ → NamedTable → Size → List ℕ → List ℕ → Table
next_sheet list entries widths rows adjoined size table levels =
    built_sheet list entries widths rows (table_in list adjoined) table (take size.columns levels) size.runs

-- a table that has any columns has a run for each row
unfoldable pub Adjoins : Table → ℕ → Type 0
Adjoins K rows = 0 < columns K → K.runs ≡ rows
