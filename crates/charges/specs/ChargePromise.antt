-- What is promised of a charge: document 02, K7, for any sheet handed in (N runs of m columns in a table, and a level list), any prices and any discount.
use Rattle.std.specs.Prelude.{◌≡◌, ◌↔◌, ◌⊎◌, ◌≢◌, cond, ◌&&◌, List, ℕ, ◌+◌, ◌*◌, ◌≤◌, ◌<◌, eqb, leb, length}
use Rattle.counting.specs.Table.{Table}
use Rattle.given_sheet.specs.Given.{WellFormed, well_formed, given_sheet}
use Rattle.charges.specs.Charge.{price_sum, hundredfold, charge, NearestPenny}

-- The number that is answered: a sheet that does not stand is 1 (K3), "before all else"; then "A discount over 100 or a price count that is not m is 15". 0 says
-- that there is a charge.
unfoldable pub charge_answer : ℕ → ℕ → List ℕ → List ℕ → List ℕ → ℕ → ℕ
charge_answer N m levels table prices discount =
    cond (well_formed N m levels table) (cond (leb discount 100 && eqb (length prices) m) 0 15) 1

-- The charge that goes with it: "after it, and after 1, the charge is 0".
unfoldable pub charge_given : ℕ → ℕ → List ℕ → List ℕ → ℕ → List ℕ → ℕ → ℕ
charge_given N m levels table run_price prices discount =
    cond (eqb (charge_answer N m levels table prices discount) 0) (charge (given_sheet N m levels table) run_price prices discount) 0

-- What a price list relies on, of a sheet and what is charged for it.
pub record Charged (T : Table) (run_price : ℕ) (prices : List ℕ) (discount pence : ℕ) : Type 0 where
  -- it is the nearest penny, halves up, and no other number is
  pub nearest : NearestPenny (hundredfold T run_price prices discount) pence
  pub no_other : (other : ℕ) → NearestPenny (hundredfold T run_price prices discount) other → other ≡ pence
  -- without a discount the sum is charged, and with 100 percent nothing
  pub undiscounted : discount ≡ 0 → pence ≡ price_sum T run_price prices
  pub free : discount ≡ 100 → pence ≡ 0
  -- "One run has no changes."
  pub one_run : T.runs ≡ 1 → price_sum T run_price prices ≡ run_price
  -- a higher discount never costs more
  pub never_dearer : (higher : ℕ) → discount ≤ higher → charge T run_price prices higher ≤ pence
  -- no sheet costs more than 512 runs with 511 changes of 128 columns, at 2³² - 1 pence each, and a hundred times as much, rounded, is below 2⁶⁴
  pub at_most : price_sum T run_price prices ≤ (512 + 511 * 128) * 4294967295
  pub no_overflow : hundredfold T run_price prices discount + 50 < 18446744073709551616

-- The promise, for a sheet, a price list, the number that is answered and the charge. Prices are numbers of 32 bits.
pub record ChargePromise (N m : ℕ) (levels table : List ℕ) (run_price : ℕ) (prices : List ℕ) (discount answer pence : ℕ) : Type 0 where
  -- the answer and the charge are what the definitions give
  pub answered : answer ≡ charge_answer N m levels table prices discount
  pub charge_is : pence ≡ charge_given N m levels table run_price prices discount
  -- the answer as conditions, each after those before it
  pub refused_sheet : (answer ≡ 1) ↔ (WellFormed N m levels table → ⊥)
  pub refused_prices : (answer ≡ 15) ↔ (WellFormed N m levels table × ((100 < discount) ⊎ (length prices ≢ m)))
  pub priced : (answer ≡ 0) ↔ (WellFormed N m levels table × (discount ≤ 100) × (length prices ≡ m))
  -- a sheet that is priced is charged the sum, less the discount, rounded once
  pub charged : answer ≡ 0 → Charged (given_sheet N m levels table) run_price prices discount pence
  -- and one that is refused nothing
  pub refused_free : answer ≢ 0 → pence ≡ 0
