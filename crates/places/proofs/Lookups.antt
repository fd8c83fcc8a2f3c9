-- Look-ups: the value that stands after k others in a list that reads is value k of the order.
use mathlib.Core.Path.{◌≡◌, refl, sym, ap, ◌∙◌}
use mathlib.Core.List.{List, [], ◌∷◌}
use Prim.Native.Nat.{ℕ, zero, suc, ◌+◌, ◌-◌, ◌≤◌, ◌<◌}
use native.Mathlib.Omega.{arith}
use lib.ListN.{length}
use Rattle.order.specs.Order.{Order}
use Rattle.order.specs.Reader.{Parsed, value, refused, Reader, continue, allowed, repeated}
use Rattle.order.specs.Grammar.{between, counted, read_ingredient, read_order}
use Rattle.order.specs.Answers.{number_of, walk_of, reading_of}
use Rattle.order.specs.declared.Cursor.{Cursor}
use Rattle.std.specs.Prelude.{Ok, Err}
use Rattle.order.specs.declared.Refused.{Refused}
use Rattle.order.proofs.Law.{Law, same_value, refused_no_value}
use Rattle.order.proofs.Answers.{value_same, refusal_same, apart, walk_value, walk_refused}
use Rattle.places.specs.Places.{or_none, from_one, nth_in, nth_read, start_of, count_of, item_at, ingredients_start, steps_start}
use Rattle.places.proofs.Parts.{continued, reading_order, reading_refused, ingredients_parts, steps_parts}

module _ {A R : Type 0} (none : R) (f : ℕ → A → R) {r : Reader A} {P : A → Type 0} {w : A → List ℕ} (law : Law r P w) where
  -- A value in front is passed over.
  after_cons : (g : ℕ → R) (a : A) (p : Parsed (List A)) → or_none none (λ xs mid. g mid) (continue p (λ xs next. value (a ∷ xs) next)) ≡ or_none none (λ xs mid. g mid) p
  after_cons g a (value xs next) = refl
  after_cons g a (refused place) = refl

  -- Where n values read, the one after k of them is value k.
  pub nth_read_lem : (n k : ℕ) (list : List ℕ) (at : ℕ) (xs : List A) (next : ℕ) → repeated n r list at ≡ value xs next → k < n → nth_read none f r k list at ≡ nth_in none f w at xs k
  nth_read_lem zero k list at xs next e h = absurd (omega arith)
  nth_read_lem (suc n) zero list at xs next e h =
      continued (r list at) _ e λ x mid v e₁.
      continued (repeated n r list mid) _ e₁ λ ys last v₁ e₂.
      same_value (λ xs next. nth_read none f r 0 list at ≡ nth_in none f w at xs 0) e₂ (rw v)
  nth_read_lem (suc n) (suc k) list at xs next e h =
      continued (r list at) _ e λ x mid v e₁.
      continued (repeated n r list mid) _ e₁ λ ys last v₁ e₂.
      let after = (law.sound list at x mid v).1.after in
      same_value (λ xs next. nth_read none f r (suc k) list at ≡ nth_in none f w at xs (suc k)) e₂
      (rw v (after_cons (λ mid. or_none none (λ x next. f mid x) (r list mid)) x (repeated k r list mid) ∙ nth_read_lem n k list mid ys last v₁ (omega arith) ∙ rw after))

-- Past the last value there is none.
pub nth_none : {A R : Type 0} (none : R) (f : ℕ → A → R) (w : A → List ℕ) (at : ℕ) (xs : List A) (k : ℕ) → length xs ≤ k → nth_in none f w at xs k ≡ none
nth_none none f w at [] k h = refl
nth_none none f w at (x ∷ xs) zero h = absurd (omega arith)
nth_none none f w at (x ∷ xs) (suc k) h = nth_none none f w (at + length (w x)) xs k (omega arith)

-- Numbers from 1.
from_one_lem : {R : Type 0} (none : R) (f : ℕ → R) (i : ℕ) → 0 < i → from_one none f i ≡ f (i - 1)
from_one_lem none f zero h = absurd (omega arith)
from_one_lem none f (suc k) h = let less : suc k - 1 ≡ k = omega arith in rw less

-- Items of one sort of an order.
module _ {A : Type 0} (items : Order → List A) (place : Order → ℕ) where
  -- Where they start, the list is that of an order.
  pub start_order : {C : Type 0} (p : Parsed Order) {q : ℕ} {next : Cursor} → start_of items place p ≡ Ok (q, next) → ((o : Order) (last : ℕ) → p ≡ value o last → q ≡ length (items o) → next.at ≡ place o → C) → C
  start_order (value o last) {q} {next} e found =
      let same = value_same {b = (q, next)} e in
      found o last refl (sym (ap (λ r. r.0) same)) (sym (ap (λ r. r.1.at) same))
  start_order (refused there) e found = apart (sym e)

  pub start_refused : (p : Parsed Order) {refusal : Refused} → start_of items place p ≡ Err refusal → p ≡ refused refusal.place
  start_refused (value o last) e = apart e
  start_refused (refused here) e = ap (λ r. refused r.place) (refusal_same e)

  pub count_is : (p : Parsed Order) {q : ℕ} {next : Cursor} → start_of items place p ≡ Ok (q, next) → q ≡ count_of items p
  count_is p e = start_order p e λ o last v many there. many ∙ rw v

  pub count_none : (p : Parsed Order) {refusal : Refused} → start_of items place p ≡ Err refusal → 0 ≡ count_of items p
  count_none p e = rw (start_refused p e)

  module _ {R : Type 0} (none : R) (f : ℕ → A → R) (w : A → List ℕ) where
    pub item_zero : (p : Parsed Order) → none ≡ item_at none f w items place p 0
    item_zero (value o last) = refl
    item_zero (refused there) = refl

    pub item_refused : (p : Parsed Order) (i : ℕ) {refusal : Refused} → start_of items place p ≡ Err refusal → none ≡ item_at none f w items place p i
    item_refused p i e = rw (start_refused p e)

    pub item_past : (p : Parsed Order) (i : ℕ) {q : ℕ} {next : Cursor} → start_of items place p ≡ Ok (q, next) → q < i → none ≡ item_at none f w items place p i
    item_past p i e h =
        start_order p e λ o last v many there.
        rw v (sym (from_one_lem none (nth_in none f w (place o) (items o)) i (omega arith) ∙ nth_none none f w (place o) (items o) (i - 1) (omega arith)))

    -- An item is found after those before it, if all of them read.
    pub item_found : {r : Reader A} {P : A → Type 0} (law : Law r P w) (list : List ℕ) (p : Parsed Order) (i : ℕ) {q : ℕ} {next : Cursor} → start_of items place p ≡ Ok (q, next) → ((o : Order) (last : ℕ) → p ≡ value o last → (end : ℕ) × (repeated (length (items o)) r list (place o) ≡ value (items o) end)) → 0 < i → i ≤ q → nth_read none f r (i - 1) list next.at ≡ item_at none f w items place p i
    item_found {r} law list p i e reads low high =
        start_order p e λ o last v many there.
        let read = reads o last v in
        rw (v, there)
        (nth_read_lem none f law (length (items o)) (i - 1) list (place o) (items o) read.0 read.1 (omega arith)
        ∙ sym (from_one_lem none (nth_in none f w (place o) (items o)) i low))

-- What stands after k values that read.
module _ {A R : Type 0} (none : R) (f : ℕ → A → R) (r : Reader A) (k : ℕ) (list : List ℕ) (at : ℕ) where
  pub nth_found : {next : Cursor} {x : A} {last : ℕ} → walk_of (repeated k r list at) ≡ Ok next → r list next.at ≡ value x last → f next.at x ≡ nth_read none f r k list at
  nth_found e v = walk_value (repeated k r list at) e λ xs v₁. rw (v₁, v)

  pub nth_refused : {next : Cursor} {place : ℕ} → walk_of (repeated k r list at) ≡ Ok next → r list next.at ≡ refused place → none ≡ nth_read none f r k list at
  nth_refused e v = walk_value (repeated k r list at) e λ xs v₁. rw (v₁, v)

  pub nth_stopped : {refusal : Refused} → walk_of (repeated k r list at) ≡ Err refusal → none ≡ nth_read none f r k list at
  nth_stopped e = rw (walk_refused (repeated k r list at) e)

-- Of a list that reads: the numbers of ingredients and of steps, and the places of the first.
module _ (list : List ℕ) where
  pub ingredients_start_lem : reading_of (read_order list) ≡ Ok tt → number_of (allowed (between 0 32) list 0) ≡ ingredients_start (read_order list)
  unfolding number_of ingredients_start
  ingredients_start_lem e =
      reading_order (read_order list) e λ o next v.
      ingredients_parts list o next v λ mid count read.
      rw (v, count)

  pub ingredients_refused : {refusal : Refused} → reading_of (read_order list) ≡ Err refusal → Err refusal ≡ ingredients_start (read_order list)
  unfolding ingredients_start
  ingredients_refused e = rw (reading_refused (read_order list) e)

  pub steps_start_lem : {next : Cursor} → reading_of (read_order list) ≡ Ok tt → walk_of (counted 0 32 read_ingredient list 0) ≡ Ok next → number_of (allowed (between 1 16) list next.at) ≡ steps_start (read_order list)
  unfolding number_of steps_start
  steps_start_lem {next} e first =
      reading_order (read_order list) e λ o last v.
      steps_parts list o last v λ mid end ingredients count read.
      walk_value (counted 0 32 read_ingredient list 0) first λ gs v₁.
      let there : mid ≡ next.at = cc in
      rw (v, ← there, count)

  pub steps_refused : {refusal : Refused} → reading_of (read_order list) ≡ Err refusal → Err refusal ≡ steps_start (read_order list)
  unfolding steps_start
  steps_refused e = rw (reading_refused (read_order list) e)

  pub ingredients_read : {C : Type 0} {refusal : Refused} → reading_of (read_order list) ≡ Ok tt → walk_of (counted 0 32 read_ingredient list 0) ≡ Err refusal → C
  ingredients_read e none =
      reading_order (read_order list) e λ o last v.
      steps_parts list o last v λ mid end ingredients count read.
      absurd (refused_no_value (sym (walk_refused (counted 0 32 read_ingredient list 0) none) ∙ ingredients))
