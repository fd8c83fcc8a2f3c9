-- The numbers of a price list come to the charge by them, or to refusal 15.
-- Assumes nothing.
use mathlib.Core.Path.{◌≡◌, sym, ◌∙◌, ap₂}
use mathlib.Core.Logic.{◌⊎◌, ◌≢◌, inl, inr, by_cases}
use mathlib.Core.Bool.{and-false}
use mathlib.Core.List.{List}
use Prim.Native.Nat.{ℕ, ◌+◌, ◌-◌, ◌≤◌, ◌<◌}
use native.Mathlib.Decide.{ℕ_discrete, dec_lt}
use native.Mathlib.Omega.{arith}
use borrow.Author.Tests.{le-leb, lt-leb, eq-eqb, ne_eqb}
use lib.Dec.{leb}
use lib.ListN.{length, get_or, take, drop, length-drop}
use lib.Seq.{length-take-le}
use Rattle.counting.specs.Table.{Table, columns}
use Rattle.given_sheet.specs.Given.{WellFormed, given_sheet}
use Rattle.given_sheet.proofs.Sheet.{given_columns}
use Rattle.charges.specs.Charge.{charge}
use Rattle.charges.specs.ChargePromise.{charge_given, ChargePromise}
use Rattle.charges.specs.declared.Quote.{Quote}
use Rattle.charge_report.specs.ChargeReport.{quote_by}

abbrev quote_of : ℕ → ℕ → Quote
quote_of answer pence = record { answer = answer; charge = pence }

module _ (numbers : List ℕ) (T : Table) where
  -- as many numbers as the columns and two more, and the last is at most 100
  quote_priced : length numbers ≡ columns T + 2 → get_or numbers (columns T + 1) 0 ≤ 100
      → quote_by numbers T ≡ quote_of 0 (charge T (get_or numbers 0 0) (take (columns T) (drop 1 numbers)) (get_or numbers (columns T + 1) 0))
  unfolding quote_by
  quote_priced many low = rw (le-leb (get_or numbers (columns T + 1) 0) 100 low, eq-eqb (length numbers) (columns T + 2) many)

  -- another count of numbers
  pub quote_count : length numbers ≢ columns T + 2 → quote_by numbers T ≡ quote_of 15 0
  unfolding quote_by
  quote_count other = rw (ne_eqb (length numbers) (columns T + 2) other, and-false (leb (get_or numbers (columns T + 1) 0) 100))

  -- a last one over 100
  quote_over : 100 < get_or numbers (columns T + 1) 0 → quote_by numbers T ≡ quote_of 15 0
  unfolding quote_by
  quote_over over = rw (lt-leb (get_or numbers (columns T + 1) 0) 100 over)

-- What is promised of the first number as the price of a run, the last as the discount and those between as the prices is what is answered by all of them.
module _ {N m : ℕ} {levels table : List ℕ} (sheet : WellFormed N m levels table) (numbers : List ℕ) (some : 2 ≤ length numbers) where
  -- how many stand between
  between_many : length (take (length numbers - 1 - 1) (drop 1 numbers)) ≡ length numbers - 2
  between_many =
      let there : length numbers - 1 - 1 ≤ length (drop 1 numbers) = omega (arith, length-drop 1 numbers) in
      let less : length numbers - 1 - 1 ≡ length numbers - 2 = omega arith in
      length-take-le (length numbers - 1 - 1) (drop 1 numbers) there ∙ less

  pub quote_same : (quote : Quote)
      → ChargePromise N m levels table (get_or numbers 0 0) (take (length numbers - 1 - 1) (drop 1 numbers)) (get_or numbers (length numbers - 1) 0) quote.answer quote.charge
      → quote ≡ quote_by numbers (given_sheet N m levels table)
  unfolding charge_given
  quote_same quote promise =
      let T = given_sheet N m levels table in
      let last = get_or numbers (length numbers - 1) 0 in
      let unfit : (100 < last) ⊎ (length (take (length numbers - 1 - 1) (drop 1 numbers)) ≢ m) → quote ≡ quote_of 15 0 =
      λ out. let refused = promise.refused_prices.1 (sheet, out) in
      ap₂ quote_of refused (promise.refused_free (λ e. omega (arith, e, refused))) in
      by_cases (ℕ_discrete (length numbers) (m + 2))
      (λ (many : length numbers ≡ m + 2).
      let at : length numbers - 1 ≡ columns T + 1 = omega (arith, many, given_columns sheet) in
      let width : length numbers - 1 - 1 ≡ columns T = omega (arith, at) in
      by_cases (dec_lt 100 last)
      (λ (over : 100 < last). unfit (inl over) ∙ sym (quote_over numbers T (rw (← at) over)))
      (λ within.
      let low : last ≤ 100 = omega arith in
      let none : quote.answer ≡ 0 = promise.priced.1 (sheet, low, between_many ∙ omega (arith, many)) in
      ap₂ quote_of none (promise.charge_is ∙ rw (← promise.answered, none, width, at))
      ∙ sym (quote_priced numbers T (omega (arith, many, given_columns sheet)) (rw (← at) low))))
      (λ other.
      unfit (inr (λ e. other (omega (arith, some, sym between_many ∙ e))))
      ∙ sym (quote_count numbers T (λ e. other (e ∙ omega (arith, given_columns sheet)))))
