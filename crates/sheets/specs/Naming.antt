-- Question 5 as a condition: what a number names, and what a step does with the ingredients that it names (document 01, "The order" and "Steps by
-- kind"). Numbers 1 to q name the ingredients of the list, 101 to 104 the house tables, and 0 nothing.
use Rattle.std.specs.Prelude.{◌≡◌, ◌⊎◌, List, [], ◌∷◌, map, ℕ, ◌+◌, ◌-◌}
use Rattle.std.proofs.Math.Option.{Option, none, some}
use Rattle.std.proofs.Math.ListN.{get_elem?}
use Rattle.counting.specs.Table.{Table, table_of}
use Rattle.counting.specs.Matrix.{Matrix, matrix_of}
use Rattle.counting.specs.Generator.{Generator, generator_of}
use Rattle.house.specs.House.{HouseNumber, house_of}
use Rattle.order.specs.Order.{Ingredient, table, matrix, generator, Step, TAKE, FIELD, SUM, MERGE, SPLIT, CROSS, Order}
use Rattle.step_tables.specs.Sheet.{take_step}
use Rattle.sheets.specs.Steps.{Operation, sum, merge, split, cross, field_step}

-- ingredient number i of the list, from 1, exists and is g
pub record IsIngredient (o : Order) (i : ℕ) (g : Ingredient) : Type 0 where
  pub place : ℕ
  pub from_one : i ≡ place + 1
  pub stands : get_elem? o.ingredients place ≡ some g

-- ingredient number i exists and is a table, namely T
pub record IsTable (o : Order) (i : ℕ) (T : Table) : Type 0 where
  pub rows : ℕ
  pub levels : List ℕ
  pub entries : List ℕ
  pub ingredient : IsIngredient o i (table rows levels entries)
  pub same : table_of entries levels rows ≡ T

-- ingredient number i exists and is a matrix, namely D
pub record NamesMatrix (o : Order) (i : ℕ) (D : Matrix) : Type 0 where
  pub rows : ℕ
  pub columns : ℕ
  pub modulus : ℕ
  pub entries : List ℕ
  pub ingredient : IsIngredient o i (matrix rows columns modulus entries)
  pub same : matrix_of entries rows columns modulus ≡ D

-- ingredient number i exists and is a generator, namely G
pub record NamesGenerator (o : Order) (i : ℕ) (G : Generator) : Type 0 where
  pub coordinates : ℕ
  pub size : ℕ
  pub widths : List ℕ
  pub entries : List ℕ
  pub ingredient : IsIngredient o i (generator coordinates size widths entries)
  pub same : generator_of entries coordinates size widths ≡ G

-- Number i names the table T: a house table by its number, or else a table of the list. (A list has at most 32 ingredients.)
abbrev pub NamesTable : Order → ℕ → Table → Type 0
NamesTable o i T = (HouseNumber i × (house_of i ≡ T)) ⊎ ((HouseNumber i → ⊥) × IsTable o i T)

-- each number names the matrix in its place
unfoldable pub NamesMatrices : Order → List ℕ → List Matrix → Type 0
NamesMatrices o [] [] = Unit {0}
NamesMatrices o [] (D ∷ Ds) = ⊥
NamesMatrices o (d ∷ ds) [] = ⊥
NamesMatrices o (d ∷ ds) (D ∷ Ds) = NamesMatrix o d D × NamesMatrices o ds Ds

-- k names the table to adjoin, or is 0 for none
unfoldable pub NamesAdjoined : Order → ℕ → Option Table → Type 0
NamesAdjoined o k none = k ≡ 0
NamesAdjoined o k (some K) = NamesTable o k K

-- The first step is of kind 1 or 2, its ingredient exists with the kind wanted, and S is the sheet that it leaves.
unfoldable pub Opens : Order → Step → Table → Type 0
Opens o (TAKE i) S = (T : Table) × NamesTable o i T × (take_step T ≡ S)
Opens o (FIELD i) S = (G : Generator) × NamesGenerator o i G × (field_step G ≡ S)
Opens o (SUM ds k) S = ⊥
Opens o (MERGE p cs) S = ⊥
Opens o (SPLIT c i) S = ⊥
Opens o (CROSS ds k h) S = ⊥

-- A later step is of kind 3 to 6, each ingredient that it names exists with the kind wanted, and f is what it does. An order counts columns from 1.
unfoldable pub Does : Order → Step → Operation → Type 0
Does o (TAKE i) f = ⊥
Does o (FIELD i) f = ⊥
Does o (SUM ds k) f = (Ds : List Matrix) × (K : Option Table) × NamesMatrices o ds Ds × NamesAdjoined o k K × (sum Ds K ≡ f)
Does o (MERGE p cs) f = merge p (map (λ c. c - 1) cs) ≡ f
Does o (SPLIT c i) f = (T : Table) × NamesTable o i T × (split (c - 1) T ≡ f)
Does o (CROSS ds k h) f =
    (Ds : List Matrix) × (K : Option Table) × (H : Table)
    × NamesMatrices o ds Ds × NamesAdjoined o k K × NamesTable o h H × (cross ds Ds K H ≡ f)
