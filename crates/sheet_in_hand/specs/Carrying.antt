-- What the functions that carry out all steps in turn take and leave: document 01, "The questions, in turn", on the list and the buffers.
use Rattle.std.specs.Prelude.{List, [], ◌∷◌, ℕ, ◌+◌}
use Rattle.std.proofs.Math.Option.{Option, none, some}
use Rattle.counting.specs.Table.{Table}
use Rattle.order.specs.Order.{Order, Step, All}
use Rattle.order.specs.Grammar.{read_order}
use Rattle.places.specs.Places.{or_none}
use Rattle.sheets.specs.Steps.{Outcome, filled, refused, all_steps}
use Rattle.sheets.specs.Fillable.{MeetsDefinition}
use Rattle.layout.specs.Bytes.{runs_of, zeros, padded}
use Rattle.layout.specs.Step.{Readable, in_order}
use Rattle.sheet_in_hand.specs.Stepping.{step_on}

-- the list reads as an order with its entries in range, and each of its ingredients meets its published definition (questions 2 to 4)
pub record Passing (list : List ℕ) : Type 0 where
  pub readable : Readable list
  pub passing : All MeetsDefinition readable.order.ingredients

-- the sheet in hand after a step and those that follow it: a refused step leaves the one before it, and none follows
unfoldable pub hand_after : Outcome → Option Table → (Table → Option Table) → Option Table
hand_after (filled S) hand following = following S
hand_after (refused why) hand following = hand

-- the sheet in hand after the steps from number n on
unfoldable pub last_hand : Order → ℕ → Option Table → List Step → Option Table
last_hand o n hand [] = hand
last_hand o n hand (step ∷ steps) = hand_after (step_on o n hand step) hand (λ S. last_hand o (n + 1) (some S) steps)

-- what all steps come to
unfoldable pub all_in : List ℕ → Outcome
all_in list = in_order list (λ o. all_steps o o.steps)

-- the sheet in hand after all steps: that of the last one, or that on which a step was refused
unfoldable pub last_in : List ℕ → Option Table
last_in list = or_none none (λ o end. last_hand o 1 none o.steps) (read_order list)

-- Every byte of a run table of n bytes that holds the sheet in hand and nothing else: zeros where there is none.
unfoldable pub hand_runs : ℕ → Option Table → List ℕ
hand_runs n none = zeros n
hand_runs n (some S) = padded n (runs_of S)

-- the same of a level list
unfoldable pub hand_levels : ℕ → Option Table → List ℕ
hand_levels n none = zeros n
hand_levels n (some S) = padded n S.levels
