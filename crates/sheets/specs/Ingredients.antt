-- What the number of an ingredient names: document 01, "The order". Numbers 1 to q name the ingredients of the list, 101 to 104 the house tables.
use Rattle.std.specs.Prelude.{List, [], ◌∷◌, ℕ, zero, suc}
use Rattle.std.proofs.Math.Option.{Option, none, some, map, bind}
use Rattle.std.proofs.Math.ListN.{get_elem?}
use Rattle.finite.specs.First.{◌or_else◌}
use Rattle.counting.specs.Table.{Table, table_of}
use Rattle.counting.specs.Matrix.{Matrix, matrix_of}
use Rattle.counting.specs.Generator.{Generator, generator_of}
use Rattle.house.specs.House.{house_table}
use Rattle.order.specs.Order.{Ingredient, table, matrix, generator, Order}

-- an ingredient as what its kind says, and as nothing else
unfoldable pub as_table : Ingredient → Option Table
as_table (table rows levels entries) = some (table_of entries levels rows)
as_table (matrix rows columns p entries) = none
as_table (generator t s widths entries) = none

unfoldable pub as_matrix : Ingredient → Option Matrix
as_matrix (table rows levels entries) = none
as_matrix (matrix rows columns p entries) = some (matrix_of entries rows columns p)
as_matrix (generator t s widths entries) = none

unfoldable pub as_generator : Ingredient → Option Generator
as_generator (table rows levels entries) = none
as_generator (matrix rows columns p entries) = none
as_generator (generator t s widths entries) = some (generator_of entries t s widths)

-- ingredient number i of the list, from 1, if it exists with the kind wanted; 0 is the number of none
unfoldable pub listed : {A : Type 0} → (Ingredient → Option A) → Order → ℕ → Option A
listed kind o zero = none
listed kind o (suc k) = bind (get_elem? o.ingredients k) kind

-- the table that number i names
unfoldable pub table_named : Order → ℕ → Option Table
table_named o i = house_table i or_else listed as_table o i

-- the matrix that number i names
unfoldable pub matrix_named : Order → ℕ → Option Matrix
matrix_named = listed as_matrix

-- the generator that number i names
unfoldable pub generator_named : Order → ℕ → Option Generator
generator_named = listed as_generator

-- the matrices that the numbers name, if each of them names one
unfoldable pub matrices_named : Order → List ℕ → Option (List Matrix)
matrices_named o [] = some []
matrices_named o (d ∷ ds) = bind (matrix_named o d) (λ D. map (λ Ds. D ∷ Ds) (matrices_named o ds))

-- the table to adjoin that k names: 0 stands for none
unfoldable pub adjoined_named : Order → ℕ → Option (Option Table)
adjoined_named o zero = some none
adjoined_named o (suc k) = map some (table_named o (suc k))
