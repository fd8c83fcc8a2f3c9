-- What a list comes to: document 01, "The questions, in turn", questions 2 to 8. The first No refuses the order; with no No it is filled.
use Rattle.std.specs.Prelude.{List, [], ◌∷◌, ℕ, ◌+◌, Result, Ok, Err}
use Rattle.std.proofs.Math.Option.{Option, none, some}
use Rattle.finite.specs.First.{◌or_else◌}
use Rattle.counting.specs.Table.{table_of}
use Rattle.counting.specs.Matrix.{matrix_of}
use Rattle.counting.specs.Generator.{generator_of}
use Rattle.counting.specs.Verdict.{table_verdict, matrix_verdict}
use Rattle.counting.specs.GeneratorVerdict.{generator_verdict}
use Rattle.counting.specs.declared.verdict.TableFault.TheVariants.{Column, Pair}
use Rattle.counting.specs.declared.verdict.TableFault.{TableFault}
use Rattle.counting.specs.declared.verdict.DifferenceFault.{DifferenceFault}
use Rattle.counting.specs.declared.verdict.DependenceFault.{DependenceFault}
use Rattle.order.specs.Order.{Ingredient, table, matrix, generator, Order}
use Rattle.order.specs.Reader.{Parsed, value, refused as unread}
use Rattle.order.specs.Grammar.{read_order}
use Rattle.order.specs.Range.{range_of}
use Rattle.order.specs.declared.RangeFault.{RangeFault}
use Rattle.order.specs.declared.RangeFault.TheVariants.{OutOfRange, Unread}
use Rattle.sheets.specs.Steps.{Outcome, refused, all_steps}
unfoldable pub use Rattle.sheets.specs.Steps.{unless}
use Rattle.sheets.specs.declared.answer.Refusal.{Refusal}
use Rattle.sheets.specs.declared.answer.Refusal.TheVariants.{Unreadable, EntryOutOfRange, UnevenLevel, UnevenPair, UnevenDifference, Dependent}

-- Question 3: the first entry that is not below its levels, p or s. It is not asked of a list that does not read.
unfoldable pub range_refusal : Result (Unit {0}) RangeFault → Option Refusal
range_refusal (Ok asked) = none
range_refusal (Err (OutOfRange place)) = some (EntryOutOfRange place)
range_refusal (Err Unread) = none

-- Question 4, of ingredient number i: what counting finds, as a refusal.
unfoldable pub table_refusal : ℕ → Result (Unit {0}) TableFault → Option Refusal
table_refusal i (Ok tt) = none
table_refusal i (Err (Column c x times)) = some (UnevenLevel i c x times)
table_refusal i (Err (Pair c d x y times)) = some (UnevenPair i c d x y times)

unfoldable pub matrix_refusal : ℕ → Result (Unit {0}) DifferenceFault → Option Refusal
matrix_refusal i (Ok tt) = none
matrix_refusal i (Err fault) =
    some (UnevenDifference i fault.first fault.second fault.difference fault.times)

unfoldable pub generator_refusal : ℕ → Result (Unit {0}) DependenceFault → Option Refusal
generator_refusal i (Ok tt) = none
generator_refusal i (Err fault) = some (Dependent i fault.first fault.second fault.coefficients)

unfoldable pub ingredient_refusal : ℕ → Ingredient → Option Refusal
ingredient_refusal i (table rows levels entries) = table_refusal i (table_verdict (table_of entries levels rows)).finding
ingredient_refusal i (matrix rows columns p entries) = matrix_refusal i (matrix_verdict (matrix_of entries rows columns p))
ingredient_refusal i (generator t s widths entries) = generator_refusal i (generator_verdict (generator_of entries t s widths))

-- Going by ingredient, used or not, from number i on: the first that does not pass.
unfoldable pub ingredients_refusal : ℕ → List Ingredient → Option Refusal
ingredients_refusal i [] = none
ingredients_refusal i (g ∷ gs) = ingredient_refusal i g or_else ingredients_refusal (i + 1) gs

-- Questions 3 to 8, of an order that was read; question 2 refuses a list that does not read.
unfoldable pub read_outcome : Parsed Order → Outcome
read_outcome (unread place) = refused (Unreadable place)
read_outcome (value o end) =
    unless (range_refusal (range_of (value o end))) (unless (ingredients_refusal 1 o.ingredients) (all_steps o o.steps))

-- the run table that a list orders, or the refusal
unfoldable pub outcome : List ℕ → Outcome
outcome list = read_outcome (read_order list)
