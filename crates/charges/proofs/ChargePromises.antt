-- The answer and the charge decide all that is promised of them.
-- Assumes nothing.
use mathlib.Core.Path.{◌≡◌, refl}
use mathlib.Core.Logic.{◌↔◌, ◌⊎◌, ◌≢◌, inl, inr, ⊎_elim, by_cases}
use mathlib.Core.Bool.{Bool, true, false, cond, ◌&&◌}
use mathlib.Core.List.{List}
use Prim.Native.Nat.{ℕ, ◌+◌, ◌*◌, ◌≤◌, ◌<◌}
use native.Mathlib.Decide.{dec_lt}
use native.Mathlib.Nat.{mul-le-mul, sub-le}
use native.Mathlib.Omega.{arith}
use borrow.Author.Tests.{ne_eqb}
use lib.Dec.{T, leb, eqb, eqb→eq}
use lib.ListN.{length, get_or}
use Rattle.finite.proofs.Tests.{T_eqb}
use Rattle.counting.specs.Table.{table_of}
use Rattle.given_sheet.specs.Given.{WellFormed, well_formed, given_sheet}
use Rattle.given_sheet.proofs.Given.{leb_iff, both_iff, passed, well_formed_iff}
use Rattle.given_sheet.proofs.Sheet.{given_columns}
use Rattle.charges.specs.Charge.{price_sum, hundredfold, charge}
use Rattle.charges.specs.ChargePromise.{charge_answer, charge_given, Charged, ChargePromise}
use Rattle.charges.proofs.Charges.{nearest_one, charge_nearest, charge_undiscounted, charge_free, charge_falls, one_run_sum, sum_at_most}

-- ---- the answer and the charge, case by case

module _ (N m : ℕ) (levels table : List ℕ) (run_price : ℕ) (prices : List ℕ) (discount : ℕ) where
  -- what the definitions give
  abbrev pub ChargeSettled : ℕ → ℕ → Type 0
  ChargeSettled answer pence = (answer ≡ charge_answer N m levels table prices discount) × (pence ≡ charge_given N m levels table run_price prices discount)

  pub sheet_refused : well_formed N m levels table ≡ false → ChargeSettled 1 0
  unfolding charge_given charge_answer
  sheet_refused e = rw e (refl, refl)

  module _ (stands : well_formed N m levels table ≡ true) where
    pub prices_refused : (leb discount 100 && eqb (length prices) m) ≡ false → ChargeSettled 15 0
    unfolding charge_given charge_answer
    prices_refused e = rw (stands, e) (refl, refl)

    pub sheet_priced : (leb discount 100 && eqb (length prices) m) ≡ true → ChargeSettled 0 (charge (given_sheet N m levels table) run_price prices discount)
    unfolding charge_given charge_answer
    sheet_priced e = rw (stands, e) (refl, refl)

-- ---- the answer as conditions

-- Two questions in turn, the first answered No by 1 and the second by 15.
record InTurn (A B : Type 0) (answer : ℕ) : Type 0 where
  first_no : (answer ≡ 1) ↔ (A → ⊥)
  second_no : (answer ≡ 15) ↔ (A × (B → ⊥))
  both_yes : (answer ≡ 0) ↔ (A × B)

module _ {A B : Type 0} where
  in_turn : (a b : Bool) → T a ↔ A → T b ↔ B → InTurn A B (cond a (cond b 0 15) 1)
  in_turn false b says told =
      record {
        first_no = (λ e x. says.1 x, λ no. refl);
        second_no = (λ e. absurd (omega (arith, e)), λ h. absurd (says.1 h.0));
        both_yes = (λ e. absurd (omega (arith, e)), λ h. absurd (says.1 h.0));
      }
  in_turn true false says told =
      record {
        first_no = (λ e. absurd (omega (arith, e)), λ no. absurd (no (says.0 tt)));
        second_no = (λ e. (says.0 tt, told.1), λ h. refl);
        both_yes = (λ e. absurd (omega (arith, e)), λ h. absurd (told.1 h.1));
      }
  in_turn true true says told =
      record {
        first_no = (λ e. absurd (omega (arith, e)), λ no. absurd (no (says.0 tt)));
        second_no = (λ e. absurd (omega (arith, e)), λ h. absurd (h.1 (told.0 tt)));
        both_yes = (λ e. (says.0 tt, told.0 tt), λ h. refl);
      }

module _ (discount many m : ℕ) where
  -- a price list that serves m columns
  serves_iff : T (leb discount 100 && eqb many m) ↔ ((discount ≤ 100) × (many ≡ m))
  serves_iff = both_iff (leb discount 100) (eqb many m) (leb_iff discount 100) (eqb→eq many m, T_eqb many m)

  pub served : (leb discount 100 && eqb many m) ≡ true → (discount ≤ 100) × (many ≡ m)
  served e = serves_iff.0 (passed _ e)

  -- and one that does not
  unfit_iff : ((discount ≤ 100) × (many ≡ m) → ⊥) ↔ ((100 < discount) ⊎ (many ≢ m))
  unfit_iff = (
    λ no. by_cases (dec_lt 100 discount) inl (λ low. inr (λ e. no (omega arith, e))),
    λ out h. ⊎_elim (λ (over : 100 < discount). omega (arith, over, h.0)) (λ (other : many ≢ m). other h.1) out,
  )

-- ---- all that is promised

module _ {N m : ℕ} {levels table : List ℕ} (sheet : WellFormed N m levels table) (run_price : ℕ) (prices : List ℕ)
    (low : run_price ≤ 4294967295) (each : (c : ℕ) → get_or prices c 0 ≤ 4294967295) (discount : ℕ) where
  sum_within : price_sum (given_sheet N m levels table) run_price prices ≤ (512 + 511 * 128) * 4294967295
  unfolding given_sheet table_of
  sum_within =
      sum_at_most (given_sheet N m levels table) run_price prices low each sheet.runs_most (rw (given_columns sheet) sheet.columns_most)

  pub sheet_charged : Charged (given_sheet N m levels table) run_price prices discount (charge (given_sheet N m levels table) run_price prices discount)
  unfolding hundredfold
  sheet_charged =
      record {
        nearest = charge_nearest (given_sheet N m levels table) run_price prices discount;
        no_other = λ other near. nearest_one (charge_nearest (given_sheet N m levels table) run_price prices discount) near;
        undiscounted = λ e. rw e (charge_undiscounted (given_sheet N m levels table) run_price prices);
        free = λ e. rw e (charge_free (given_sheet N m levels table) run_price prices);
        one_run = one_run_sum (given_sheet N m levels table) run_price prices;
        never_dearer = λ higher h. charge_falls (given_sheet N m levels table) run_price prices h;
        at_most = sum_within;
        no_overflow = omega (arith, mul-le-mul sum_within (sub-le 100 discount));
      }

pub charge_promised : (N m : ℕ) (levels table : List ℕ) (run_price : ℕ) (prices : List ℕ) (discount : ℕ) {answer pence : ℕ}
    → run_price ≤ 4294967295 → ((c : ℕ) → get_or prices c 0 ≤ 4294967295)
    → ChargeSettled N m levels table run_price prices discount answer pence
    → ChargePromise N m levels table run_price prices discount answer pence
unfolding charge_given charge_answer
charge_promised N m levels table run_price prices discount low each settled =
    let many = length prices in
    let says = in_turn (well_formed N m levels table) (leb discount 100 && eqb many m) (well_formed_iff N m levels table) (serves_iff discount many m) in
    rw (settled.0, settled.1)
    record {
      answered = refl;
      charge_is = refl;
      refused_sheet = says.first_no;
      refused_prices = (λ e. ((says.second_no.0 e).0, (unfit_iff discount many m).0 (says.second_no.0 e).1), λ h. says.second_no.1 (h.0, (unfit_iff discount many m).1 h.1));
      priced = (λ e. let h = says.both_yes.0 e in (h.0, h.1.0, h.1.1), λ h. says.both_yes.1 (h.0, (h.1, h.2)));
      charged = λ e. rw e (sheet_charged (says.both_yes.0 e).0 run_price prices low each discount);
      refused_free = λ no. rw (ne_eqb (charge_answer N m levels table prices discount) 0 no);
    }
