-- What the exported function promises: `plan`'s promise, with the answer as seven numbers and a signed one, the spare degrees (02, K1).
use Rattle.std.specs.Prelude.{◌≡◌, ◌↔◌, List, ℕ, ℤ, pos, length, get_or}
use Rattle.sheets.specs.Refusals.{numbered, RefusesOrders, answer_numbers, answer_spare}
use Rattle.sheets.specs.Fillable.{Fillable}
use Rattle.sheets.specs.declared.answer.Refusal.{Refusal}
use Rattle.sheets.specs.declared.answer.Answer.{Answer}
use Rattle.causes.specs.Causes.{Cause}
use Rattle.layout.specs.Bytes.{lengths_of, LongEnough}
use Rattle.promise.specs.Promise.{planned, answer_to, EvenBytes, SpareDegrees, Promise}

-- the answer that the definitions give from the list and the lengths of run table, level list and scratch
unfoldable pub answer_from : List ℕ → List ℕ → List ℕ → List ℕ → Answer
answer_from list table levels scratch = answer_to (planned list (length table) (length levels) (length scratch))

-- The promise, for a list and the buffers as they were, the number that is returned, the seven numbers, the signed one, and the buffers as they are.
pub record PromiseInNumbers (list table levels scratch : List ℕ) (number : ℕ) (numbers : List ℕ) (spared : ℤ) (table' levels' scratch' : List ℕ) : Type 0 where
  -- `plan`'s promise, for every byte of the three buffers
  pub promised : Promise list table levels scratch (answer_from list table levels scratch) table' levels' scratch'
  -- the seven numbers are those of that answer, and the first of them is returned; the signed one is its spare degrees
  pub numbers_are : numbers ≡ answer_numbers (answer_from list table levels scratch)
  pub number_is : number ≡ get_or numbers 0 0
  pub signed_is : spared ≡ answer_spare (answer_from list table levels scratch)
  -- it is 0 exactly when the stated conditions hold
  pub filled_when : (number ≡ 0) ↔ (LongEnough table levels scratch × Fillable list)
  -- and then the second and the third say how many runs of how many columns lie in the run table, every column and every two columns even
  pub even : number ≡ 0 → EvenBytes (get_or numbers 1 0) (get_or numbers 2 0) table' levels'
  -- and the signed number its spare degrees
  pub spare_is : number ≡ 0 → SpareDegrees (get_or numbers 1 0) (get_or numbers 2 0) spared levels'
  -- any other number is one of 1 to 11 or 14, the seven are those of a refusal whose cause holds, and the signed one is 0
  pub refused_for : (number ≡ 0 → ⊥)
      → RefusesOrders number × (spared ≡ pos 0) × ((why : Refusal) × (numbers ≡ numbered why) × Cause list (lengths_of table levels scratch) why)
