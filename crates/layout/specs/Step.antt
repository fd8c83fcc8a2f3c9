-- What the functions that carry out a step take and leave: document 01, "Steps by kind" and questions 5 to 8, on the list and the buffers.
use Rattle.std.specs.Prelude.{◌≡◌, List, ℕ, ◌≤◌, Some}
use Rattle.counting.specs.Table.{Table, columns}
use Rattle.order.specs.Order.{Order}
use Rattle.order.specs.Reader.{Parsed, value, refused as unread}
use Rattle.order.specs.Grammar.{read_order, Reads}
use Rattle.order.specs.Range.{EntriesInRange}
use Rattle.places.specs.Places.{step_at, operands_of}
use Rattle.step_tables.specs.Sheet.{Sound, SmallEnough}
use Rattle.spare.specs.Spare.{spare}
use Rattle.sheets.specs.Steps.{Outcome, filled, refused, first_step, later_step}
use Rattle.sheets.specs.declared.answer.Refusal.TheVariants.{Unreadable}
use Rattle.sheets.specs.declared.answer.Answer.{Answer}
use Rattle.sheets.specs.declared.answer.Answer.TheVariants.{Filled, Refused}
use Rattle.layout.specs.Bytes.{Holds, Zeros, LongEnough, sheet_in}
use Rattle.layout.specs.declared.Size.{Size}

-- the list reads as an order (question 2) with its entries in range (question 3)
pub record Readable (list : List ℕ) : Type 0 where
  pub order : Order
  pub reads : Reads list order
  pub in_range : EntriesInRange order

-- a step of the list is of this kind and has its operands from place at on
pub record Stands (list : List ℕ) (kind at : ℕ) : Type 0 where
  pub number : ℕ
  pub found : step_at (read_order list) number ≡ Some (record { kind = kind; operands_at = at })

-- what the order that the list reads as comes to
unfoldable pub in_order : List ℕ → (Order → Outcome) → Outcome
in_order list come = go (read_order list)
  where
    go : Parsed Order → Outcome
    go (value o end) = come o
    go (unread place) = refused (Unreadable place)

-- what the first step comes to that is of this kind and has its operands from place at on
unfoldable pub first_in : List ℕ → ℕ → ℕ → Outcome
first_in list kind at = in_order list (λ o. first_step o (operands_of list kind at))

-- the same of a later step, number n, where the sheet before it is S
unfoldable pub later_in : List ℕ → ℕ → Table → ℕ → ℕ → Outcome
later_in list n S kind at = in_order list (λ o. later_step o n S (operands_of list kind at))

-- what a later step takes: the sheet in hand, sound and within the limits, with nothing else in the buffers, and its spare degrees (02, K1)
pub record Ready (list : List ℕ) (size : Size) (table levels scratch : List ℕ) : Type 0 where
  pub readable : Readable list
  pub long : LongEnough table levels scratch
  pub columns_most : size.columns ≤ 128
  pub sound : Sound (sheet_in table levels size)
  pub small : SmallEnough (sheet_in table levels size)
  pub holds : Holds (sheet_in table levels size) table levels
  pub spare_is : size.spare ≡ spare (sheet_in table levels size)
  pub scratch_clear : Zeros scratch

-- What is there where a step comes to an outcome: the answer, and the run table and the level list, which were table and levels before. A refused
-- step leaves them as they were.
unfoldable pub Left : Outcome → List ℕ → List ℕ → Answer → List ℕ → List ℕ → Type 0
Left (filled S) table levels answer table' levels' = (answer ≡ Filled S.runs (columns S) (spare S)) × Holds S table' levels'
Left (refused why) table levels answer table' levels' = (answer ≡ Refused why) × (table' ≡ table) × (levels' ≡ levels)
