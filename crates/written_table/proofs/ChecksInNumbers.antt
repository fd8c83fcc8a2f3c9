-- The promise of the check in numbers: the first number is 0 for a table that passes alone, and otherwise 2, 3, 4 or 5.
-- Assumes nothing.
use mathlib.Core.Path.{◌≡◌, refl, ap}
use mathlib.Core.List.{List}
use Prim.Native.Nat.{ℕ}
use lib.Dec.{lit≤}
use lib.IntN.{ℤ}
use lib.ListN.{get_or}
use Rattle.std.specs.Prelude.{Result, Ok, Err}
use Rattle.order.specs.Order.{Ingredient, table, matrix, generator, Between}
use Rattle.order.specs.Reader.{Parsed, value, refused}
use Rattle.order.specs.Range.{ingredient_range}
use Rattle.order.specs.declared.RangeFault.{RangeFault}
use Rattle.order.specs.declared.RangeFault.TheVariants.{OutOfRange, Unread}
use Rattle.counting.specs.Table.{table_of}
use Rattle.counting.specs.Verdict.{table_verdict}
use Rattle.counting.specs.declared.verdict.TableFault.TheVariants.{Column, Pair}
use Rattle.counting.specs.declared.verdict.TableVerdict.{TableVerdict}
use Rattle.counting.specs.declared.verdict.TableFault.{TableFault}
use Rattle.sheets.specs.Outcome.{table_refusal}
use Rattle.sheets.specs.Refusals.{numbered}
use Rattle.sheets.proofs.Numbers.{number_not_zero}
use Rattle.sheets.specs.declared.answer.Refusal.{Refusal}
use Rattle.question_4.specs.Passing.{passing_of}
use Rattle.written_table.specs.WrittenTable.{read_table, range_check, ingredient_check, parsed_check, table_check}
use Rattle.written_table.specs.CheckPromise.{CheckPromise}
use Rattle.written_table.specs.CheckInNumbers.{check_numbers, CheckInNumbers}
use Rattle.written_table.specs.declared.TableCheck.{TableCheck}
use Rattle.written_table.proofs.CheckPromises.{check_promised}

abbrev first_of : Result (Unit {0}) Refusal → ℕ
first_of p = get_or (check_numbers p) 0 0

-- No refusal has the number 0.
zero_passes : (p : Result (Unit {0}) Refusal) → first_of p ≡ 0 → p ≡ Ok tt
unfolding check_numbers
zero_passes (Ok tt) e = refl
zero_passes (Err why) e = absurd (number_not_zero why e)

passes_zero : (p : Result (Unit {0}) Refusal) → p ≡ Ok tt → first_of p ≡ 0
unfolding check_numbers
passes_zero p e = ap first_of e

-- The number of an answer that is no pass, question by question.
abbrev Numbered : Result (Unit {0}) Refusal → Type 0
Numbered p = (first_of p ≡ 0 → ⊥) → Between 2 5 (first_of p)

finding_numbered : (f : Result (Unit {0}) TableFault) → Numbered (passing_of (table_refusal 1 f))
unfolding check_numbers numbered passing_of table_refusal
finding_numbered (Ok tt) n = absurd (n refl)
finding_numbered (Err (Column c x times)) n = (lit≤ tt, lit≤ tt)
finding_numbered (Err (Pair c d x y times)) n = (lit≤ tt, lit≤ tt)

range_numbered : (x : Result (Unit {0}) RangeFault) (verdict : TableVerdict) → Numbered (range_check x verdict).passing
unfolding check_numbers numbered
range_numbered (Ok tt) verdict = finding_numbered verdict.finding
range_numbered (Err (OutOfRange place)) verdict = λ n. (lit≤ tt, lit≤ tt)
range_numbered (Err Unread) verdict = λ n. (lit≤ tt, lit≤ tt)

ingredient_numbered : (g : Ingredient) → Numbered (ingredient_check g).passing
unfolding check_numbers numbered
ingredient_numbered (table rows levels entries) = range_numbered (ingredient_range 3 (table rows levels entries)) (table_verdict (table_of entries levels rows))
ingredient_numbered (matrix rows columns p entries) = λ n. (lit≤ tt, lit≤ tt)
ingredient_numbered (generator t s widths entries) = λ n. (lit≤ tt, lit≤ tt)

parsed_numbered : (p : Parsed Ingredient) → Numbered (parsed_check p).passing
unfolding check_numbers numbered
parsed_numbered (value g next) = ingredient_numbered g
parsed_numbered (refused place) = λ n. (lit≤ tt, lit≤ tt)

check_numbered : (list : List ℕ) → Numbered (table_check list).passing
unfolding table_check
check_numbered list = parsed_numbered (read_table list)

-- What the definitions give keeps the promise in numbers.
of_definition : (list : List ℕ) → CheckInNumbers list (first_of (table_check list).passing) (check_numbers (table_check list).passing) (table_check list).gap (table_check list).pairs
of_definition list =
    let promise = check_promised list in
    record {
      promised = promise;
      numbers_are = refl;
      number_is = refl;
      gap_is = refl;
      pairs_is = refl;
      passes_when = (λ z. promise.passes_when.0 (zero_passes _ z), λ w. passes_zero _ (promise.passes_when.1 w));
      refused_as = check_numbered list;
    }

pub check_in_numbers : {list : List ℕ} {r : TableCheck} {number : ℕ} {numbers : List ℕ} {gap : ℤ} {pairs : ℕ} → CheckPromise list r
    → numbers ≡ check_numbers r.passing → number ≡ get_or numbers 0 0 → gap ≡ r.gap → pairs ≡ r.pairs
    → CheckInNumbers list number numbers gap pairs
check_in_numbers {list} promise e first signed counted =
    let is = promise.answered in
    rw (first, e, signed, counted, is) (of_definition list)
