-- `plan`'s promise gives the promise in numbers: the first number is 0 for a filled order alone. Assumes nothing.
use mathlib.Core.Path.{◌≡◌, refl, ap, subst}
use mathlib.Core.List.{List}
use Prim.Native.Nat.{ℕ}
use lib.IntN.{ℤ, pos}
use lib.ListN.{get_or}
use Rattle.sheets.specs.Refusals.{numbered, answer_numbers, answer_spare}
use Rattle.sheets.specs.declared.answer.Refusal.{Refusal}
use Rattle.sheets.specs.declared.answer.Answer.{Answer}
use Rattle.sheets.specs.declared.answer.Answer.TheVariants.{Filled, Refused}
use Rattle.sheets.proofs.Numbers.{number_not_zero}
use Rattle.promise.specs.Promise.{Promise}
use Rattle.promise.specs.PromiseInNumbers.{answer_from, PromiseInNumbers}

-- no refusal has the number 0, so that 0 is a filled order, of the size that the next two numbers say, and of the spare degrees beside them
zero_filled : (a : Answer) → get_or (answer_numbers a) 0 0 ≡ 0 → a ≡ Filled (get_or (answer_numbers a) 1 0) (get_or (answer_numbers a) 2 0) (answer_spare a)
unfolding answer_numbers answer_spare
zero_filled (Filled N m spared) e = refl
zero_filled (Refused why) e = absurd (number_not_zero why e)

filled_zero : (a : Answer) (N m : ℕ) (spared : ℤ) → a ≡ Filled N m spared → get_or (answer_numbers a) 0 0 ≡ 0
unfolding answer_numbers
filled_zero a N m spared e = ap (λ b. get_or (answer_numbers b) 0 0) e

-- and any other number is that of a refusal
nonzero_refused : (a : Answer) → (get_or (answer_numbers a) 0 0 ≡ 0 → ⊥)
    → (why : Refusal) × (a ≡ Refused why) × (answer_numbers a ≡ numbered why) × (answer_spare a ≡ pos 0)
unfolding answer_numbers answer_spare
nonzero_refused (Filled N m spared) n = absurd (n refl)
nonzero_refused (Refused why) n = (why, refl, refl, refl)

module _ (list table levels scratch : List ℕ) (table' levels' scratch' : List ℕ) where
  in_numbers_of : (a : Answer) → Promise list table levels scratch a table' levels' scratch' → a ≡ answer_from list table levels scratch
      → PromiseInNumbers list table levels scratch (get_or (answer_numbers a) 0 0) (answer_numbers a) (answer_spare a) table' levels' scratch'
  in_numbers_of a promise e =
      record {
        promised = subst (λ b. Promise list table levels scratch b table' levels' scratch') e promise;
        numbers_are = ap answer_numbers e;
        number_is = refl;
        signed_is = ap answer_spare e;
        filled_when = (
          (λ z. promise.filled_when.0 (_, _, _, zero_filled a z)),
          (λ h. let f = promise.filled_when.1 h in filled_zero a f.0 f.1 f.2 f.3),
        );
        even = λ z. promise.even _ _ _ (zero_filled a z);
        spare_is = λ z. promise.spare_is _ _ _ (zero_filled a z);
        refused_for = λ n.
            let (why, is, numbers, none_spared) = nonzero_refused a n in
            let (number, cause) = promise.refused_for why is in
            (rw numbers number, none_spared, (why, numbers, cause));
      }

  pub in_numbers : {a : Answer} {number : ℕ} {numbers : List ℕ} {spared : ℤ} → Promise list table levels scratch a table' levels' scratch'
      → numbers ≡ answer_numbers a → number ≡ get_or numbers 0 0 → spared ≡ answer_spare a
      → PromiseInNumbers list table levels scratch number numbers spared table' levels' scratch'
  unfolding answer_from
  in_numbers {a} promise e first signed =
      rw (first, e, signed) (in_numbers_of a promise promise.answered)
