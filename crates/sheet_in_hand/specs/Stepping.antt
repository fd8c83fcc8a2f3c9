-- What the function that carries out one step takes and leaves: document 01, "The questions, in turn", on the list and the buffers.
-- "The sheet is the table in hand: none before the first step, afterwards what the latest step left" ("The order"): an option of a table.
use Rattle.std.specs.Prelude.{◌≡◌, ◌≢◌, Bool, cond, List, ℕ, ◌-◌, eqb, leb}
use Rattle.std.proofs.Math.Option.{Option, none, some}
use Rattle.std.proofs.Math.ListN.{get_elem?}
use Rattle.counting.specs.Table.{Table}
use Rattle.order.specs.Order.{Order, Step}
use Rattle.places.specs.Places.{operands_of}
use Rattle.sheets.specs.Steps.{Outcome, provided, first_step, later_step}
use Rattle.sheets.specs.declared.answer.Refusal.TheVariants.{StepNotAllowed}
use Rattle.layout.specs.Bytes.{Zeros, LongEnough, sheet_in}
use Rattle.layout.specs.Step.{Readable, Ready, in_order}
use Rattle.layout.specs.declared.Size.{Size}

-- Question 5 of step number n, of its kind alone: is the first step of kind 1 or 2, every later one 3 to 6 (02, K6)?
unfoldable pub kind_allowed : ℕ → ℕ → Bool
kind_allowed n kind = cond (eqb n 1) (leb kind 2) (leb 3 kind)

-- what step number n comes to, by the sheet in hand
unfoldable pub step_on : Order → ℕ → Option Table → Step → Outcome
step_on o n none step = first_step o step
step_on o n (some S) step = later_step o n S step

-- what step number n comes to that is of this kind and has its operands from place at on
unfoldable pub numbered_in : List ℕ → ℕ → Option Table → ℕ → ℕ → Outcome
numbered_in list n hand kind at = in_order list (λ o. step_on o n hand (operands_of list kind at))

-- what step number n of the list comes to
unfoldable pub proceed_in : List ℕ → ℕ → Option Table → Outcome
proceed_in list n hand = in_order list (λ o. provided (get_elem? o.steps (n - 1)) (StepNotAllowed n) (step_on o n hand))

-- the sheet in hand before step number n, of this size, in the buffers
unfoldable pub in_hand : ℕ → Size → List ℕ → List ℕ → Option Table
in_hand n size table levels = cond (eqb n 1) none (some (sheet_in table levels size))

-- what step number n takes: blank buffers before the first step, and afterwards what a later step takes
pub record Prepared (list : List ℕ) (number : ℕ) (size : Size) (table levels scratch : List ℕ) : Type 0 where
  pub readable : Readable list
  pub long : LongEnough table levels scratch
  pub scratch_clear : Zeros scratch
  pub blank : number ≡ 1 → Zeros table × Zeros levels
  pub ready : number ≢ 1 → Ready list size table levels scratch
