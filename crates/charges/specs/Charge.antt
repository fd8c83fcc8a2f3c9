-- What a sheet costs: document 02, K7, "The price list applied". All prices are in pence.
use Rattle.std.specs.Prelude.{Bool, not, List, ℕ, ◌+◌, ◌*◌, ◌-◌, ◌/◌, ◌≤◌, ◌<◌, eqb, get_or}
use Rattle.finite.specs.Sum.{sum, bit}
use Rattle.counting.specs.Table.{Table, columns}

-- "whose level differs from the run before": column c, in the run after run r
unfoldable pub changes : Table → ℕ → ℕ → Bool
changes T r c = not (eqb (T.cell (r + 1) c) (T.cell r c))

-- "each column whose level differs from the run before, that column's price": of the run after run r
unfoldable pub change_pence : Table → List ℕ → ℕ → ℕ
change_pence T prices r = sum (columns T) (λ c. bit (changes T r c) * get_or prices c 0)

-- "The sum is runs × the run price plus, for each run after the first and each column whose level differs from the run before, that column's price." There
-- are runs - 1 runs after the first, the ones after run 0, run 1, and so on.
unfoldable pub price_sum : Table → ℕ → List ℕ → ℕ
price_sum T run_price prices = T.runs * run_price + sum (T.runs - 1) (change_pence T prices)

-- "the sum × (100 − discount)": a hundred times the charge, exactly
unfoldable pub hundredfold : Table → ℕ → List ℕ → ℕ → ℕ
hundredfold T run_price prices discount = price_sum T run_price prices * (100 - discount)

-- "÷ 100, rounded to the nearest penny, halves up"
unfoldable pub rounded : ℕ → ℕ
rounded hundredths = (hundredths + 50) / 100

-- "The charge is the sum × (100 − discount) ÷ 100, rounded to the nearest penny, halves up, once at the end."
unfoldable pub charge : Table → ℕ → List ℕ → ℕ → ℕ
charge T run_price prices discount = rounded (hundredfold T run_price prices discount)

-- What "the nearest penny, halves up" means: a hundred times so many pence is within 50 of the hundredfold, and not 50 below it, as a half goes up.
pub record NearestPenny (hundredths pence : ℕ) : Type 0 where
  pub not_over : pence * 100 ≤ hundredths + 50
  pub not_under : hundredths < pence * 100 + 50
