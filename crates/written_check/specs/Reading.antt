-- What the parts of the code that read a table find in the list.
use Rattle.std.specs.Prelude.{◌≡◌, List, ℕ, ltb, Result, Ok, Err}
use Rattle.order.specs.Order.{Ingredient}
use Rattle.order.specs.Reader.{value, when}
use Rattle.order.specs.Answers.{located}
use Rattle.order.specs.declared.Cursor.{Cursor}
use Rattle.order.specs.declared.Located.{Located}
use Rattle.order.specs.declared.Refused.{Refused}
use Rattle.written_table.specs.WrittenTable.{read_table}

-- What was read up to a cursor, where nothing may be left over of so many numbers.
unfoldable pub to_end : Located → Cursor → ℕ → Result (Located × Cursor) Refused
to_end what next end = when (ltb next.at end) (Err (record { place = next.at })) (Ok (what, record { at = end }))

-- These are the places of what the list reads as.
pub record ReadAs (list : List ℕ) (what : Located) : Type 0 where
  pub ingredient : Ingredient
  pub next : ℕ
  pub reads : read_table list ≡ value ingredient next
  pub places : what ≡ located 3 ingredient
