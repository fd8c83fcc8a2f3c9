-- Tables that look the same cost the same.
-- Assumes nothing.
use mathlib.Core.Path.{◌≡◌, ap₂}
use mathlib.Core.Bool.{not}
use mathlib.Core.List.{List}
use Prim.Native.Nat.{ℕ, ◌+◌, ◌*◌, ◌-◌, ◌<◌}
use native.Mathlib.Omega.{arith}
use lib.Dec.{eqb}
use lib.ListN.{get_or, take, drop}
use Rattle.finite.specs.Sum.{sum, bit}
use Rattle.finite.proofs.Sums.{sum_ext}
use Rattle.counting.specs.Table.{Table, columns}
use Rattle.step_tables.specs.Sheet.{Agree}
use Rattle.step_tables.proofs.Agreement.{agree_columns}
use Rattle.charges.specs.Charge.{changes, change_pence, price_sum, hundredfold, charge}
use Rattle.charge_report.specs.ChargeReport.{quote_by, sheet_charged}

module _ {A B : Table} (alike : Agree A B) where
  -- what changes in one changes in the other
  change_agrees : (r c : ℕ) → r < A.runs - 1 → c < columns A → changes A r c ≡ changes B r c
  unfolding changes
  change_agrees r c h k = ap₂ (λ (x y : ℕ). not (eqb x y)) (alike.same_cells (r + 1) c (omega (arith, h)) k) (alike.same_cells r c (omega (arith, h)) k)

  -- so both come to the same sum
  sum_agrees : (run_price : ℕ) (prices : List ℕ) → price_sum A run_price prices ≡ price_sum B run_price prices
  unfolding price_sum change_pence
  sum_agrees run_price prices =
      let pence : ℕ → ℕ → ℕ = λ N m. N * run_price + sum (N - 1) (λ r. sum m (λ c. bit (changes B r c) * get_or prices c 0)) in
      let same : sum (A.runs - 1) (λ r. sum (columns A) (λ c. bit (changes A r c) * get_or prices c 0)) ≡ sum (A.runs - 1) (λ r. sum (columns A) (λ c. bit (changes B r c) * get_or prices c 0)) =
      sum_ext (A.runs - 1) (λ r h. sum_ext (columns A) (λ c k. rw (change_agrees r c h k))) in
      rw same (ap₂ pence alike.same_runs (agree_columns alike))

  charge_agrees : (run_price : ℕ) (prices : List ℕ) (discount : ℕ) → charge A run_price prices discount ≡ charge B run_price prices discount
  unfolding charge hundredfold
  charge_agrees run_price prices discount = rw (sum_agrees run_price prices)

  pub charged_agree : (numbers : List ℕ) → sheet_charged numbers A ≡ sheet_charged numbers B
  unfolding sheet_charged quote_by
  charged_agree numbers =
      rw (agree_columns alike, charge_agrees (get_or numbers 0 0) (take (columns B) (drop 1 numbers)) (get_or numbers (columns B + 1) 0))
