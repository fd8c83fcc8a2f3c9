-- The conditions under which an order is filled: document 01, questions 2 to 8, with that of 02, K6, stated as conditions on the list.
use Rattle.std.specs.Prelude.{◌≡◌, List, [], ◌∷◌, ℕ, ◌≤◌, length}
use Rattle.galois.specs.Arithmetic.{field_sum, field_product}
use Rattle.counting.specs.Table.{Table, table_of, Even}
use Rattle.counting.specs.Matrix.{matrix_of, DifferenceMatrix}
use Rattle.counting.specs.Generator.{generator_of, Independent}
use Rattle.order.specs.Order.{Ingredient, table, matrix, generator, Step, Order, All, WithinLimits, written}
use Rattle.order.specs.Range.{EntriesInRange}
use Rattle.step_tables.specs.Sheet.{SmallEnough}
use Rattle.step_tables.specs.Sum.{rows_of, adjoined_table, SumFits}
use Rattle.step_tables.specs.Cross.{CrossFits, ServingEven}
use Rattle.step_tables.specs.Merge.{MergeFits, MemberSums}
use Rattle.step_tables.specs.Split.{SplitFits}
use Rattle.sheets.specs.Steps.{Operation, sum, merge, split, cross, applied}
use Rattle.sheets.specs.Naming.{Opens, Does}

-- question 4: an ingredient meets its published definition, a table at strength two
unfoldable pub MeetsDefinition : Ingredient → Type 0
MeetsDefinition (table rows levels entries) = Even 2 (table_of entries levels rows)
MeetsDefinition (matrix rows columns p entries) = DifferenceMatrix (matrix_of entries rows columns p)
MeetsDefinition (generator t s widths entries) = Independent (field_sum s) (field_product s) 2 (generator_of entries t s widths)

-- question 6, on the sheet S
unfoldable pub Fits : Operation → Table → Type 0
Fits (sum Ds k) S = SumFits Ds (adjoined_table (rows_of Ds) k) S
Fits (merge p cs) S = MergeFits p cs S
Fits (split c T) S = SplitFits c T S
Fits (cross ds Ds k H) S = CrossFits Ds (adjoined_table (rows_of Ds) k) H S

-- between questions 6 and 7 (02, K6): each value stands M ÷ p times in each column of every matrix that serves the sheet in a CROSS
unfoldable pub EvenMatrices : Operation → Table → Type 0
EvenMatrices (sum Ds k) S = Unit {0}
EvenMatrices (merge p cs) S = Unit {0}
EvenMatrices (split c T) S = Unit {0}
EvenMatrices (cross ds Ds k H) S = ServingEven Ds S

-- question 7: each MERGE member is its sum
unfoldable pub TrueSums : Operation → Table → Type 0
TrueSums (sum Ds k) S = Unit {0}
TrueSums (merge p cs) S = MemberSums p cs S
TrueSums (split c T) S = Unit {0}
TrueSums (cross ds Ds k H) S = Unit {0}

-- questions 5 and 8 of the first step: it is of kind 1 or 2, its ingredient exists with the kind wanted, and its sheet is small enough
pub record Opened (o : Order) (step : Step) : Type 0 where
  pub sheet : Table
  pub allowed : Opens o step sheet
  pub small_enough : SmallEnough sheet

-- questions 5 to 8 of a later step, where the sheet before it is S
pub record Carried (o : Order) (S : Table) (step : Step) : Type 0 where
  pub doing : Operation
  pub allowed : Does o step doing
  pub fitting : Fits doing S
  pub even_matrices : EvenMatrices doing S
  pub true_sums : TrueSums doing S
  pub small_enough : SmallEnough (applied doing S)

-- each later step in turn, on the sheet that the step before it leaves
unfoldable pub LaterCarried : Order → Table → List Step → Type 0
LaterCarried o S [] = Unit {0}
LaterCarried o S (step ∷ steps) = (c : Carried o S step) × LaterCarried o (applied c.doing S) steps

-- all steps, of which there is at least one
unfoldable pub AllCarried : Order → List Step → Type 0
AllCarried o [] = ⊥
AllCarried o (step ∷ steps) = (c : Opened o step) × LaterCarried o c.sheet steps

-- The list is the writing of an order with every number in its limits (question 2), every entry is below its levels, p or s (question 3), every
-- ingredient meets its published definition (question 4), and each step may be carried out on the sheet before it (questions 5 to 8).
pub record Fillable (list : List ℕ) : Type 0 where
  pub order : Order
  pub short_enough : length list ≤ 32768
  pub limits : WithinLimits order
  pub writes : written order ≡ list
  pub in_range : EntriesInRange order
  pub passing : All MeetsDefinition order.ingredients
  pub carried : AllCarried order order.steps

-- the sheets that later steps leave, in turn
unfoldable pub later_sheets : (o : Order) (S : Table) (steps : List Step) → LaterCarried o S steps → List Table
unfolding LaterCarried
later_sheets o S [] c = []
later_sheets o S (step ∷ steps) c = applied c.0.doing S ∷ later_sheets o (applied c.0.doing S) steps c.1

-- the sheets that all steps leave, in turn
unfoldable pub sheets : (o : Order) (steps : List Step) → AllCarried o steps → List Table
unfolding AllCarried
sheets o [] c = []
sheets o (step ∷ steps) c = c.0.sheet ∷ later_sheets o c.0.sheet steps c.1

-- the latest of the sheets, where S is the one before them
abbrev pub latest : Table → List Table → Table
latest S [] = S
latest S (T ∷ Ts) = latest T Ts

-- the sheet that the last step leaves
unfoldable pub final_sheet : (o : Order) (steps : List Step) → AllCarried o steps → Table
unfolding AllCarried
final_sheet o [] c = absurd c
final_sheet o (step ∷ steps) c = latest c.0.sheet (later_sheets o c.0.sheet steps c.1)

-- the run table that a fillable list orders
abbrev pub ordered_table : (list : List ℕ) → Fillable list → Table
ordered_table list fillable = final_sheet fillable.order fillable.order.steps fillable.carried
