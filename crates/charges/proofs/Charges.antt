-- The laws of a charge: it is the nearest penny and the only one, and what a price list relies on.
-- Assumes nothing.
use mathlib.Core.Path.{◌≡◌}
use mathlib.Core.List.{List}
use Prim.Native.Nat.{ℕ, ◌+◌, ◌*◌, ◌-◌, ◌≤◌}
use native.Mathlib.Nat.{le_refl, le_trans, mul-le-mul}
use native.Mathlib.Omega.{arith}
use lib.ListN.{get_or}
use Rattle.finite.specs.Sum.{sum, bit}
use Rattle.finite.proofs.Sums.{sum_most}
use Rattle.finite.proofs.Counts.{bit_le}
use Rattle.counting.specs.Table.{Table, columns}
use Rattle.charges.specs.Charge.{changes, change_pence, price_sum, hundredfold, rounded, charge, NearestPenny}

-- ---- rounding

rounded_nearest : (hundredths : ℕ) → NearestPenny hundredths (rounded hundredths)
unfolding rounded
rounded_nearest hundredths = record { not_over = omega arith; not_under = omega arith }

pub nearest_one : {hundredths pence other : ℕ} → NearestPenny hundredths pence → NearestPenny hundredths other → other ≡ pence
nearest_one near far = omega (arith, near.not_over, near.not_under, far.not_over, far.not_under)

rounded_whole : (pence : ℕ) → rounded (pence * 100) ≡ pence
unfolding rounded
rounded_whole pence = omega arith

rounded_le : {less more : ℕ} → less ≤ more → rounded less ≤ rounded more
unfolding rounded
rounded_le h = omega (arith, h)

-- ---- the charge

module _ (T : Table) (run_price : ℕ) (prices : List ℕ) where
  pub charge_nearest : (discount : ℕ) → NearestPenny (hundredfold T run_price prices discount) (charge T run_price prices discount)
  unfolding charge
  charge_nearest discount = rounded_nearest (hundredfold T run_price prices discount)

  pub charge_undiscounted : charge T run_price prices 0 ≡ price_sum T run_price prices
  unfolding charge hundredfold
  charge_undiscounted = rounded_whole (price_sum T run_price prices)

  pub charge_free : charge T run_price prices 100 ≡ 0
  unfolding charge hundredfold rounded
  charge_free = omega arith

  pub charge_falls : {discount higher : ℕ} → discount ≤ higher → charge T run_price prices higher ≤ charge T run_price prices discount
  unfolding charge hundredfold
  charge_falls {discount} {higher} h = rounded_le (mul-le-mul (le_refl (price_sum T run_price prices)) (omega (arith, h)))

  -- "One run has no changes."
  pub one_run_sum : T.runs ≡ 1 → price_sum T run_price prices ≡ run_price
  unfolding price_sum sum
  one_run_sum e = rw e (omega arith)

-- ---- the most that a sheet can cost

module _ (T : Table) (run_price : ℕ) (prices : List ℕ) {most : ℕ} (low : run_price ≤ most) (each : (c : ℕ) → get_or prices c 0 ≤ most) where
  change_most : (r : ℕ) → columns T ≤ 128 → change_pence T prices r ≤ 128 * most
  unfolding change_pence
  change_most r few =
      le_trans
      (sum_most (columns T) most {f = λ c. bit (changes T r c) * get_or prices c 0} (λ c h. omega (arith, each c, mul-le-mul (bit_le (changes T r c)) (le_refl (get_or prices c 0)))))
      (mul-le-mul few (le_refl most))

  pub sum_at_most : T.runs ≤ 512 → columns T ≤ 128 → price_sum T run_price prices ≤ (512 + 511 * 128) * most
  unfolding price_sum
  sum_at_most runs few =
      let later : T.runs - 1 ≤ 511 = omega (arith, runs) in
      let changed = le_trans (sum_most (T.runs - 1) (128 * most) {f = change_pence T prices} (λ r h. change_most r few)) (mul-le-mul later (le_refl (128 * most))) in
      omega (arith, changed, mul-le-mul runs low)
