-- What a step leaves, or why it is refused: document 01, "Steps by kind" and questions 5 to 8, and 02, K6, step 6. Questions 5, 6 and 8 look at shapes
-- alone, question 7 and what K6 asks before it at cells. An order counts columns from 1; the steps' own definitions count them from 0.
use Rattle.std.specs.Prelude.{Bool, cond, List, [], ◌∷◌, map, ℕ, ◌+◌, ◌-◌, get_or}
use Rattle.std.proofs.Math.Option
use Rattle.std.proofs.Math.Option.{Option, none, some, bind}
use Rattle.galois.specs.Arithmetic.{field_sum, field_product}
use Rattle.counting.specs.Table.{Table, columns}
use Rattle.counting.specs.Matrix.{Matrix}
use Rattle.counting.specs.Generator.{Generator}
use Rattle.order.specs.Order.{Step, TAKE, FIELD, SUM, MERGE, SPLIT, CROSS, Order}
use Rattle.sheets.specs.Ingredients.{table_named, generator_named, matrices_named, adjoined_named}
use Rattle.step_tables.specs.Sheet.{take_step, small_enough}
use Rattle.step_tables.specs.Field.{field_table}
use Rattle.step_tables.specs.Sum.{level_sum, rows_of, adjoined_table, sum_fits, sum_step}
use Rattle.step_tables.specs.Cross.{ValueFault, serving_fault, cross_fits, cross_step}
use Rattle.step_tables.specs.Merge.{MemberFault, member_fault, merge_fits, merge_step}
use Rattle.step_tables.specs.Split.{split_fits, split_step}
use Rattle.sheets.specs.declared.answer.Refusal.{Refusal}
use Rattle.sheets.specs.declared.answer.Refusal.TheVariants.{StepNotAllowed, PartsDoNotFit, NotTheSum, TooLarge, UnevenValue}

-- a table, or why there is none
pub data Outcome : Type 0 where
  filled : Table → Outcome
  refused : Refusal → Outcome

-- go on with the table; the first No ends it
unfoldable pub proceed : Outcome → (Table → Outcome) → Outcome
proceed (filled S) next = next S
proceed (refused why) next = refused why

-- go on with what is there; the No is that it is not
unfoldable pub provided : {A : Type 0} → Option A → Refusal → (A → Outcome) → Outcome
provided none why next = refused why
provided (some a) why next = next a

-- a No, or else what comes of the questions after it
unfoldable pub unless : Option Refusal → Outcome → Outcome
unless none next = next
unless (some why) next = refused why

-- FIELD, over the field of the generator's size
unfoldable pub field_step : Generator → Table
field_step G = field_table (field_sum G.size) (field_product G.size) G

-- Question 5 of the first step, of kind 1 or 2: the sheet that it leaves, if its ingredient exists with the kind wanted.
unfoldable pub opening : Order → Step → Option Table
opening o (TAKE i) = Option.map take_step (table_named o i)
opening o (FIELD i) = Option.map field_step (generator_named o i)
opening o (SUM ds k) = none
opening o (MERGE p cs) = none
opening o (SPLIT c i) = none
opening o (CROSS ds k h) = none

-- a later step with its ingredients in hand; a CROSS also with the numbers of its matrices, one of which refusal 14 names
pub data Operation : Type 0 where
  sum : List Matrix → Option Table → Operation
  merge : ℕ → List ℕ → Operation
  split : ℕ → Table → Operation
  cross : List ℕ → List Matrix → Option Table → Table → Operation

-- Question 5 of a later step, of kind 3 to 6: what it does, if each ingredient that it names exists with the kind wanted.
unfoldable pub operation : Order → Step → Option Operation
operation o (TAKE i) = none
operation o (FIELD i) = none
operation o (SUM ds k) = bind (matrices_named o ds) (λ Ds. Option.map (sum Ds) (adjoined_named o k))
operation o (MERGE p cs) = some (merge p (map (λ c. c - 1) cs))
operation o (SPLIT c i) = Option.map (split (c - 1)) (table_named o i)
operation o (CROSS ds k h) =
    bind (matrices_named o ds) (λ Ds. bind (adjoined_named o k) (λ K. Option.map (cross ds Ds K) (table_named o h)))

-- Question 6: do the parts fit?
unfoldable pub fits : Operation → Table → Bool
fits (sum Ds k) S = sum_fits Ds (adjoined_table (rows_of Ds) k) S
fits (merge p cs) S = merge_fits p cs S
fits (split c T) S = split_fits c T S
fits (cross ds Ds k H) S = cross_fits Ds (adjoined_table (rows_of Ds) k) H S

-- Between questions 6 and 7 (02, K6), of step number n: the first matrix that serves the sheet in a CROSS and has an uneven column, as a refusal. The
-- matrix is named by its number in the step's list ds.
unfoldable pub value_refusal : ℕ → List ℕ → ValueFault → Refusal
value_refusal n ds fault = UnevenValue n (get_or ds fault.place 0) (fault.column + 1) fault.value

unfoldable pub uneven_matrix : ℕ → Operation → Table → Option Refusal
uneven_matrix n (sum Ds k) S = none
uneven_matrix n (merge p cs) S = none
uneven_matrix n (split c T) S = none
uneven_matrix n (cross ds Ds k H) S = Option.map (value_refusal n ds) (serving_fault Ds S.levels)

-- Question 7: the first MERGE member that is not its sum, if there is one.
unfoldable pub wrong_member : Operation → Table → Option MemberFault
wrong_member (sum Ds k) S = none
wrong_member (merge p cs) S = member_fault p cs S
wrong_member (split c T) S = none
wrong_member (cross ds Ds k H) S = none

-- the sheet that the step leaves
unfoldable pub applied : Operation → Table → Table
applied (sum Ds k) S = sum_step level_sum Ds (adjoined_table (rows_of Ds) k) S
applied (merge p cs) S = merge_step p cs S
applied (split c T) S = split_step c T S
applied (cross ds Ds k H) S = cross_step level_sum Ds (adjoined_table (rows_of Ds) k) H S

-- Question 8 of step number n: is the sheet that it would leave at most 512 runs and 128 columns?
unfoldable pub sized : ℕ → Table → Outcome
sized n S = cond (small_enough S) (filled S) (refused (TooLarge n S.runs (columns S)))

-- Question 7 of step number n, from what was found, and then question 8 of the sheet that the step would leave.
unfoldable pub after_sums : ℕ → Table → Option MemberFault → Outcome
after_sums n next none = sized n next
after_sums n next (some fault) = refused (NotTheSum n fault.run fault.member_number)

-- Questions 6 to 8 in turn, with that of 02, K6 between 6 and 7.
unfoldable pub operate : ℕ → Table → Operation → Outcome
operate n S f =
    cond (fits f S) (unless (uneven_matrix n f S) (after_sums n (applied f S) (wrong_member f S))) (refused (PartsDoNotFit n))

-- the first step
unfoldable pub first_step : Order → Step → Outcome
first_step o step = provided (opening o step) (StepNotAllowed 1) (sized 1)

-- step number n, where the sheet before it is S
unfoldable pub later_step : Order → ℕ → Table → Step → Outcome
later_step o n S step = provided (operation o step) (StepNotAllowed n) (operate n S)

-- the steps from number n on: a step's questions come before the next step's
unfoldable pub later_steps : Order → ℕ → Table → List Step → Outcome
later_steps o n S [] = filled S
later_steps o n S (step ∷ steps) = proceed (later_step o n S step) (λ next. later_steps o (n + 1) next steps)

-- all steps, of which an order has one or more
unfoldable pub all_steps : Order → List Step → Outcome
all_steps o [] = refused (StepNotAllowed 1)
all_steps o (step ∷ steps) = proceed (first_step o step) (λ S. later_steps o 2 S steps)
