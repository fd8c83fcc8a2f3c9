-- What a number names, as the list has it: document 01, "The order". Numbers 1 to q name the ingredients of the list, 101 to 104 the house tables.
use Rattle.std.specs.Prelude
use Rattle.std.specs.Prelude.{cond, ◌&&◌, List, [], ℕ, ◌+◌, ◌*◌, ◌≤◌, leb, length, take, drop, Some, None}
use Rattle.std.proofs.Math.Option.{Option, none, some}
use Rattle.places.specs.Places.{ingredient_at}
use Rattle.buffers.specs.Put.{Bytes}
use Rattle.counting.specs.Table.{Table, table_of}
use Rattle.counting.specs.Matrix.{Matrix, matrix_of}
use Rattle.counting.specs.Generator.{Generator, generator_of}
use Rattle.house.specs.House.{HouseNumber, house_of}
use Rattle.order.specs.Order.{Order}
use Rattle.order.specs.Reader.{Parsed}
use Rattle.order.specs.declared.Located.{Located}
use Rattle.order.specs.declared.Located.TheVariants.{Table as TableAt, Matrix as MatrixAt, Generator as GeneratorAt}
use Rattle.ingredients.specs.declared.named.NamedTable.{NamedTable}
use Rattle.ingredients.specs.declared.named.NamedTable.TheVariants.{Own, House, Missing}

-- a table of the list, and no other ingredient
unfoldable pub own_table : Prelude.Option Located → NamedTable
own_table (Some (TableAt rows columns levels_at entries_at)) = Own rows columns levels_at entries_at
own_table (Some (MatrixAt rows columns p entries_at)) = Missing
own_table (Some (GeneratorAt t n s widths_at width entries_at)) = Missing
own_table None = Missing

-- what number i names
unfoldable pub named_table : Parsed Order → ℕ → NamedTable
named_table order i = cond (leb 101 i && leb i 104) (House i) (own_table (ingredient_at order i))

-- the table itself; of none, one with no runs and no columns
unfoldable pub table_in : List ℕ → NamedTable → Table
table_in list (Own rows columns levels_at entries_at) =
    table_of (take (rows * columns) (drop entries_at list)) (take columns (drop levels_at list)) rows
table_in list (House number) = house_of number
table_in list Missing = record { runs = 0; levels = []; cell = λ r c. 0 }

-- its numbers stand within the list and fit in bytes
unfoldable pub Legible : List ℕ → NamedTable → Type 0
Legible list (Own rows columns levels_at entries_at) =
    (levels_at + columns ≤ length list)
    × (entries_at + rows * columns ≤ length list)
    × Bytes (take columns (drop levels_at list))
    × Bytes (take (rows * columns) (drop entries_at list))
Legible list (House number) = HouseNumber number
Legible list Missing = Unit {0}

-- the table of a number in 01's sense, which has none where nothing is named
unfoldable pub some_table : List ℕ → NamedTable → Option Table
some_table list (Own rows columns levels_at entries_at) = some (table_in list (Own rows columns levels_at entries_at))
some_table list (House number) = some (table_in list (House number))
some_table list Missing = none

-- the matrix, and the generator, whose numbers stand in the list at these places
abbrev pub matrix_in : List ℕ → ℕ → ℕ → ℕ → ℕ → Matrix
matrix_in list rows columns p entries_at = matrix_of (take (rows * columns) (drop entries_at list)) rows columns p

abbrev pub generator_in : List ℕ → ℕ → ℕ → ℕ → ℕ → ℕ → ℕ → Generator
generator_in list t n s widths_at width entries_at =
    generator_of (take (t * width) (drop entries_at list)) t s (take n (drop widths_at list))

-- the matrix, and the generator, that a look-up in the list finds; other ingredients are none
unfoldable pub some_matrix : List ℕ → Prelude.Option Located → Option Matrix
some_matrix list (Some (TableAt rows columns levels_at entries_at)) = none
some_matrix list (Some (MatrixAt rows columns p entries_at)) = some (matrix_in list rows columns p entries_at)
some_matrix list (Some (GeneratorAt t n s widths_at width entries_at)) = none
some_matrix list None = none

unfoldable pub some_generator : List ℕ → Prelude.Option Located → Option Generator
some_generator list (Some (TableAt rows columns levels_at entries_at)) = none
some_generator list (Some (MatrixAt rows columns p entries_at)) = none
some_generator list (Some (GeneratorAt t n s widths_at width entries_at)) = some (generator_in list t n s widths_at width entries_at)
some_generator list None = none
