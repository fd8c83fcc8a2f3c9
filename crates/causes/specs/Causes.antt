-- Why an order is refused: the cause of each of document 01's eleven refusals and of 14 (02, K6), as a condition on the list and the lengths of the
-- buffers ("The questions, in turn"). The first No refuses the order, so each cause says that the questions before it are answered Yes, and names the first failure of its own.
use Rattle.std.specs.Prelude.{◌≡◌, ◌⊎◌, List, ◌∷◌, ◌++◌, ℕ, ◌+◌, ◌≤◌, ℤ, length, get_or}
use Rattle.std.proofs.Math.Option.{Option}
use Rattle.galois.specs.Arithmetic.{field_sum, field_product}
use Rattle.counting.specs.Table.{Table, columns, table_of}
use Rattle.counting.specs.Matrix.{Matrix, matrix_of}
use Rattle.counting.specs.Generator.{generator_of}
use Rattle.counting.specs.Failures.{FirstFault, FirstDifference, FirstDependence}
use Rattle.counting.specs.declared.verdict.DependenceFault.{DependenceFault}
use Rattle.counting.specs.declared.verdict.DifferenceFault.{DifferenceFault}
use Rattle.counting.specs.declared.verdict.TableFault.{TableFault}
use Rattle.counting.specs.declared.verdict.TableFault.TheVariants.{Column, Pair}
use Rattle.order.specs.Order.{Ingredient, table, matrix, generator, Step, Order, All, WithinLimits, written}
use Rattle.order.specs.Range.{EntriesInRange}
use Rattle.order_causes.specs.Causes.{NotAnOrder, FirstOutOfRange}
use Rattle.sheets.specs.Buffers.{Lengths, Suffices}
use Rattle.step_tables.specs.Sheet.{SmallEnough}
use Rattle.step_tables.specs.Sum.{rows_of, adjoined_table}
use Rattle.step_tables.specs.Cross.{CrossFits, ValueFault, FirstUneven}
use Rattle.step_tables.specs.Merge.{MergeFits, LowestFault}
use Rattle.sheets.specs.Steps.{Operation, merge, cross, applied}
use Rattle.sheets.specs.Naming.{Opens, Does}
use Rattle.sheets.specs.Fillable.{MeetsDefinition, Fits, EvenMatrices, TrueSums, AllCarried, final_sheet}
use Rattle.sheets.specs.declared.answer.Refusal.{Refusal}
use Rattle.sheets.specs.declared.answer.Refusal.TheVariants.{ShortBuffers, Unreadable, EntryOutOfRange, UnevenLevel, UnevenPair, UnevenDifference, Dependent, StepNotAllowed, PartsDoNotFit, NotTheSum, TooLarge, UnevenValue}

-- ---- how far the questions are answered Yes

-- questions 1 and 2 are: the buffers suffice, and the list is the writing of the order o, with every number in its limits
pub record ReachesRange (list : List ℕ) (lengths : Lengths) (o : Order) : Type 0 where
  pub suffices : Suffices lengths
  pub short_enough : length list ≤ 32768
  pub limits : WithinLimits o
  pub writes : written o ≡ list

-- questions 1 to 3 are: and every entry is below its levels, p or s
pub record ReachesPassing (list : List ℕ) (lengths : Lengths) (o : Order) : Type 0 where
  pub read : ReachesRange list lengths o
  pub in_range : EntriesInRange o

-- questions 1 to 4 are: and every ingredient meets its published definition
pub record ReachesSteps (list : List ℕ) (lengths : Lengths) (o : Order) : Type 0 where
  pub ranged : ReachesPassing list lengths o
  pub passing : All MeetsDefinition o.ingredients

-- ---- question 4: the first ingredient that does not meet its definition

-- ingredient number i, from 1, is g, and every one before it meets its definition
pub record ReachesIngredient (o : Order) (i : ℕ) (g : Ingredient) : Type 0 where
  pub before : List Ingredient
  pub after : List Ingredient
  pub one_of : o.ingredients ≡ before ++ g ∷ after
  pub number : i ≡ length before + 1
  pub passing : All MeetsDefinition before

-- it is a table, and the fault is its first, an uneven column before uneven pairs, with the gap that goes with it (02, K5)
pub record TableFails (o : Order) (i : ℕ) (fault : TableFault) : Type 0 where
  pub rows : ℕ
  pub levels : List ℕ
  pub entries : List ℕ
  pub reached : ReachesIngredient o i (table rows levels entries)
  pub gap : ℤ
  pub first_fault : FirstFault (table_of entries levels rows) fault gap

-- it is a matrix, and the fault is its first
pub record MatrixFails (o : Order) (i : ℕ) (fault : DifferenceFault) : Type 0 where
  pub rows : ℕ
  pub columns : ℕ
  pub modulus : ℕ
  pub entries : List ℕ
  pub reached : ReachesIngredient o i (matrix rows columns modulus entries)
  pub first_fault : FirstDifference (matrix_of entries rows columns modulus) fault

-- it is a generator, and the fault is its first
pub record GeneratorFails (o : Order) (i : ℕ) (fault : DependenceFault) : Type 0 where
  pub coordinates : ℕ
  pub size : ℕ
  pub widths : List ℕ
  pub entries : List ℕ
  pub reached : ReachesIngredient o i (generator coordinates size widths entries)
  pub first_fault : FirstDependence (field_sum size) (field_product size) (generator_of entries coordinates size widths) fault

-- ---- questions 5 to 8: the first step that is answered No

-- step number n is the first
pub record ReachesFirst (o : Order) (n : ℕ) (step : Step) : Type 0 where
  pub after : List Step
  pub one_of : o.steps ≡ step ∷ after
  pub number : n ≡ 1

-- step number n is a later one, every step before it is carried out, and S is the sheet that they leave
pub record ReachesLater (o : Order) (n : ℕ) (step : Step) (S : Table) : Type 0 where
  pub first : Step
  pub before : List Step
  pub after : List Step
  pub one_of : o.steps ≡ first ∷ (before ++ step ∷ after)
  pub number : n ≡ length before + 2
  pub carried : AllCarried o (first ∷ before)
  pub sheet : final_sheet o (first ∷ before) carried ≡ S

-- question 5: the first step leaves no sheet, for its kind or its ingredient; a later one does nothing, for its kind or an ingredient
unfoldable pub NotAllowed : Order → ℕ → Type 0
NotAllowed o n =
    ((step : Step) × ReachesFirst o n step × ((S : Table) → Opens o step S → ⊥))
    ⊎ ((step : Step) × (S : Table) × ReachesLater o n step S × ((f : Operation) → Does o step f → ⊥))

-- question 6: the step is allowed, and its parts do not fit
pub record NotFitting (o : Order) (n : ℕ) : Type 0 where
  pub step : Step
  pub sheet : Table
  pub at : ReachesLater o n step sheet
  pub doing : Operation
  pub allowed : Does o step doing
  pub unfit : Fits doing sheet → ⊥

-- between questions 6 and 7 (02, K6): it is a CROSS that is allowed and fits, and value v of column c, from 1, of the matrix with number i does not
-- stand M ÷ p times. The matrix serves the sheet, and no serving matrix before it in the step's list, no column before c in it and no value below v
-- in the column is uneven.
pub record UnevenMatrix (o : Order) (n i c v : ℕ) : Type 0 where
  pub step : Step
  pub sheet : Table
  pub at : ReachesLater o n step sheet
  pub numbers : List ℕ
  pub matrices : List Matrix
  pub adjoined : Option Table
  pub other : Table
  pub allowed : Does o step (cross numbers matrices adjoined other)
  pub fitting : CrossFits matrices (adjoined_table (rows_of matrices) adjoined) other sheet
  pub fault : ValueFault
  pub first_uneven : FirstUneven matrices sheet fault
  pub ingredient_is : i ≡ get_or numbers fault.place 0
  pub column_is : c ≡ fault.column + 1
  pub value_is : v ≡ fault.value

-- question 7: it is a MERGE that is allowed and fits, and in run r, the lowest, member number h, the lowest there, is not its sum
pub record NoSum (o : Order) (n r h : ℕ) : Type 0 where
  pub step : Step
  pub sheet : Table
  pub at : ReachesLater o n step sheet
  pub p : ℕ
  pub members : List ℕ
  pub allowed : Does o step (merge p members)
  pub fitting : MergeFits p members sheet
  pub lowest : LowestFault p members sheet (record { run = r; member_number = h })

-- a sheet of N runs and m columns that is not small enough
pub record Oversized (S : Table) (N m : ℕ) : Type 0 where
  pub oversized : SmallEnough S → ⊥
  pub runs_are : N ≡ S.runs
  pub columns_are : m ≡ columns S

-- question 8 of a later step: it is allowed, fits, has even matrices where it is a CROSS, and merges true sums, and the sheet that it would leave is not small enough
pub record LaterOversized (o : Order) (n N m : ℕ) : Type 0 where
  pub step : Step
  pub sheet : Table
  pub at : ReachesLater o n step sheet
  pub doing : Operation
  pub allowed : Does o step doing
  pub fitting : Fits doing sheet
  pub even_matrices : EvenMatrices doing sheet
  pub true_sums : TrueSums doing sheet
  pub too_large : Oversized (applied doing sheet) N m

-- question 8: the sheet that the step would leave has N runs and m columns, and is not small enough
unfoldable pub SheetTooLarge : Order → ℕ → ℕ → ℕ → Type 0
SheetTooLarge o n N m =
    ((step : Step) × (S : Table) × ReachesFirst o n step × Opens o step S × Oversized S N m) ⊎ LaterOversized o n N m

-- ---- the causes

unfoldable pub Cause : List ℕ → Lengths → Refusal → Type 0
Cause list lengths ShortBuffers = Suffices lengths → ⊥
Cause list lengths (Unreadable place) = Suffices lengths × NotAnOrder list place
Cause list lengths (EntryOutOfRange place) = (o : Order) × ReachesRange list lengths o × FirstOutOfRange o place
Cause list lengths (UnevenLevel i c x times) = (o : Order) × ReachesPassing list lengths o × TableFails o i (Column c x times)
Cause list lengths (UnevenPair i c d x y times) = (o : Order) × ReachesPassing list lengths o × TableFails o i (Pair c d x y times)
Cause list lengths (UnevenDifference i c d v times) =
    (o : Order) × ReachesPassing list lengths o × MatrixFails o i (record { first = c; second = d; difference = v; times = times })
Cause list lengths (Dependent i c d v) =
    (o : Order) × ReachesPassing list lengths o × GeneratorFails o i (record { first = c; second = d; coefficients = v })
Cause list lengths (StepNotAllowed n) = (o : Order) × ReachesSteps list lengths o × NotAllowed o n
Cause list lengths (PartsDoNotFit n) = (o : Order) × ReachesSteps list lengths o × NotFitting o n
Cause list lengths (NotTheSum n r h) = (o : Order) × ReachesSteps list lengths o × NoSum o n r h
Cause list lengths (TooLarge n N m) = (o : Order) × ReachesSteps list lengths o × SheetTooLarge o n N m
Cause list lengths (UnevenValue n i c v) = (o : Order) × ReachesSteps list lengths o × UnevenMatrix o n i c v
