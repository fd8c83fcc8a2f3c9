-- What the exported check of a table promises: the promise of the check, with the answer as seven numbers, a signed one, the gap, and the number of pairs of
-- columns that were counted (document 02, K5 and K8).
use Rattle.std.specs.Prelude.{◌≡◌, ◌↔◌, List, [], ◌∷◌, ℕ, ℤ, get_or, Result, Ok, Err}
use Rattle.order.specs.Order.{Between}
use Rattle.sheets.specs.Refusals.{numbered}
use Rattle.sheets.specs.declared.answer.Refusal.{Refusal}
use Rattle.written_table.specs.WrittenTable.{table_check}
use Rattle.written_table.specs.CheckPromise.{WritesEven, CheckPromise}

-- The seven numbers of an answer: zeros for a table that passes, or 01's number of the refusal and its six details.
unfoldable pub check_numbers : Result (Unit {0}) Refusal → List ℕ
check_numbers (Ok tt) = 0 ∷ 0 ∷ 0 ∷ 0 ∷ 0 ∷ 0 ∷ 0 ∷ []
check_numbers (Err why) = numbered why

-- The promise, for a list, the number that is returned, the seven numbers, the signed one, and the pairs of columns.
pub record CheckInNumbers (list : List ℕ) (number : ℕ) (numbers : List ℕ) (gap : ℤ) (pairs : ℕ) : Type 0 where
  -- the promise of the check, for the answer that the definitions give
  pub promised : CheckPromise list (table_check list)
  -- the seven numbers are those of that answer, and the first of them is returned; the signed one is its gap, and the last its pairs
  pub numbers_are : numbers ≡ check_numbers (table_check list).passing
  pub number_is : number ≡ get_or numbers 0 0
  pub gap_is : gap ≡ (table_check list).gap
  pub pairs_is : pairs ≡ (table_check list).pairs
  -- it is 0 exactly when the list writes an even table, and any other number is one of 2 to 5
  pub passes_when : (number ≡ 0) ↔ WritesEven list
  pub refused_as : (number ≡ 0 → ⊥) → Between 2 5 number
