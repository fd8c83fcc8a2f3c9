-- What it means that a reader reads what a writer writes, within limits; and that the readers of specs/Reader.antt do.
use mathlib.Core.Path.{◌≡◌, refl, sym, ◌∙◌, ap, subst₂}
use mathlib.Core.Logic.{◌↔◌}
use mathlib.Core.Bool.{Bool, true, false}
use mathlib.Core.List.{List, [], ◌∷◌, ◌++◌}
use Prim.Native.Nat.{ℕ, zero, suc, ◌+◌, ◌-◌, ◌≤◌}
use native.Mathlib.Nat.{add-zero, suc_inj}
use native.Mathlib.Omega.{arith}
use borrow.Author.Tests.{lt-ltb, le-leb, ltb-true, leb-true}
use lib.Dec.{ltb, leb}
use lib.ListN.{length, get_or, take, drop, length-append, length-drop, take-append-drop}
use lib.Seq.{drop-drop, length-take-le}
use Rattle.order.specs.Order.{All, written_all}
use Rattle.order.specs.Reader.{Parsed, value, refused, Reader, when, continue, allowed, numbers, repeated}
use Rattle.order.proofs.Segment.{Segment, segment_none, join, part_left, part_right, segment_numbers, one_number, number_in, number_is}

-- A reader reads a from at up to next exactly where P holds of a and the numbers w a stand from at up to next.
pub record Law {A : Type 0} (r : Reader A) (P : A → Type 0) (w : A → List ℕ) : Type 0 where
  pub sound : (list : List ℕ) (at : ℕ) (a : A) (next : ℕ) → r list at ≡ value a next → P a × Segment list at (w a) next
  pub complete : (list : List ℕ) (at : ℕ) (a : A) (next : ℕ) → P a → Segment list at (w a) next → r list at ≡ value a next

-- A refusal is no value.
pub refused_no_value : {A : Type 0} {a : A} {place next : ℕ} → refused place ≡ value a next → ⊥
refused_no_value e = let z : ◌≡◌ {A = ℕ} 0 1 = cc in omega arith

-- Where a test decides between a reading and a refusal and a value is read, the test held.
pub when_value : {A : Type 0} (b : Bool) (p : Parsed A) (place : ℕ) {a : A} {next : ℕ} → when b p (refused place) ≡ value a next → (b ≡ true) × (p ≡ value a next)
when_value true p place e = (refl, e)
when_value false p place e = absurd (refused_no_value e)

-- One number that passes a test.
module _ (test : ℕ → Bool) (P : ℕ → Type 0) (reflects : (x : ℕ) → (test x ≡ true) ↔ P x) where
  number_sound : (list : List ℕ) (at x next : ℕ) → allowed test list at ≡ value x next → P x × Segment list at (x ∷ []) next
  unfolding allowed
  number_sound list at x next e =
      let inside = when_value (ltb at (length list)) _ _ e in
      let passed = when_value (test (get_or list at 0)) _ _ inside.1 in
      let same : get_or list at 0 ≡ x = cc in
      let then : at + 1 ≡ next = cc in
      rw (← same, ← then) ((reflects _).0 passed.0, one_number (ltb-true at (length list) inside.0))

  number_complete : (list : List ℕ) (at x next : ℕ) → P x → Segment list at (x ∷ []) next → allowed test list at ≡ value x next
  unfolding allowed
  number_complete list at x next h s =
      rw (number_is s, lt-ltb at (length list) (number_in s), (reflects x).1 h, s.after)

  pub number_law : Law (allowed test) P (λ x. x ∷ [])
  number_law = record { sound = number_sound; complete = number_complete }

-- n numbers of any size.
module _ (n : ℕ) where
  numbers_sound : (list : List ℕ) (at : ℕ) (us : List ℕ) (next : ℕ) → numbers n list at ≡ value us next → (length us ≡ n) × Segment list at us next
  unfolding numbers
  numbers_sound list at us next e =
      let inside = when_value (leb n (length list - at)) _ _ e in
      let same : take n (drop at list) ≡ us = cc in
      let then : at + n ≡ next = cc in
      let fits : n ≤ length (drop at list) = omega (arith, leb-true n (length list - at) inside.0, length-drop at list) in
      let long : length (take n (drop at list)) ≡ n = length-take-le n (drop at list) fits in
      rw (← same, ← then)
      (long, record { content = sym (take-append-drop n (drop at list)) ∙ rw drop-drop; after = rw long })

  numbers_complete : (list : List ℕ) (at : ℕ) (us : List ℕ) (next : ℕ) → length us ≡ n → Segment list at us next → numbers n list at ≡ value us next
  unfolding numbers
  numbers_complete list at us next h s =
      let fits : length us ≤ length list - at = omega (arith, simp length-append at (ap length s.content), length-drop at list) in
      rw (← h, le-leb (length us) (length list - at) fits, segment_numbers s, s.after)

  pub numbers_law : Law (numbers n) (λ us. length us ≡ n) (λ us. us)
  numbers_law = record { sound = numbers_sound; complete = numbers_complete }

-- What holds of a value and its place holds of an equal reading's.
pub same_value : {A : Type 0} {a b : A} {mid next : ℕ} (Q : A → ℕ → Type 0) → value a mid ≡ value b next → Q a mid → Q b next
same_value {A} {a} {b} {mid} {next} Q e q =
    let p : a ≡ b = cc in
    let n : mid ≡ next = cc in
    subst₂ Q p n q

-- What follows a reader that has a law: k is the rest of the reading, given the value and the place after it.
module _ {A B : Type 0} {r : Reader A} {P : A → Type 0} {w : A → List ℕ} (law : Law r P w) {list : List ℕ} where
  -- A value that is read was read by both.
  pub bind_sound : (at : ℕ) (k : A → ℕ → Parsed B) {b : B} {next : ℕ} {C : Type 0} → continue (r list at) k ≡ value b next → ((a : A) (mid : ℕ) → P a → Segment list at (w a) mid → k a mid ≡ value b next → C) → C
  bind_sound at k {b} {next} {C} e found = go (r list at) refl e
    where
      go : (p : Parsed A) → r list at ≡ p → continue p k ≡ value b next → C
      go (value a mid) h e = let both = law.sound list at a mid h in found a mid both.0 both.1 e
      go (refused place) h e = absurd (refused_no_value e)

  -- Where the first reader's numbers stand, the rest goes on after them.
  pub bind_last : {at next : ℕ} (k : A → ℕ → Parsed B) (a : A) → P a → Segment list at (w a) next → continue (r list at) k ≡ k a next
  bind_last {at} {next} k a h s = rw (law.complete list at a next h s)

  pub bind_complete : {at next : ℕ} (k : A → ℕ → Parsed B) (a : A) (v : List ℕ) {b : B} → P a → Segment list at (w a ++ v) next → ((mid : ℕ) → Segment list mid v next → k a mid ≡ value b next) → continue (r list at) k ≡ value b next
  bind_complete {at} k a v h s rest = bind_last k a h (part_left (w a) v s) ∙ rest (at + length (w a)) (part_right (w a) v s)

-- n times what a reader with a law reads.
module _ {A : Type 0} {r : Reader A} {P : A → Type 0} {w : A → List ℕ} (law : Law r P w) where
  times_complete : (n : ℕ) (list : List ℕ) (at : ℕ) (xs : List A) (next : ℕ) → (length xs ≡ n) × All P xs → Segment list at (written_all w xs) next → repeated n r list at ≡ value xs next
  times_complete zero list at [] next h s = ap (value []) (sym (add-zero at) ∙ sym s.after)
  times_complete zero list at (x ∷ xs) next h s = absurd (omega (arith, h.0))
  times_complete (suc n) list at [] next h s = absurd (omega (arith, h.0))
  times_complete (suc n) list at (x ∷ xs) next (long, (p, ps)) s =
      bind_complete law _ x (written_all w xs) p s λ mid t. rw (times_complete n list mid xs next (suc_inj long, ps) t)

  times_sound : (n : ℕ) (list : List ℕ) (at : ℕ) (xs : List A) (next : ℕ) → repeated n r list at ≡ value xs next → ((length xs ≡ n) × All P xs) × Segment list at (written_all w xs) next
  times_sound zero list at xs next e =
      same_value (λ xs next. ((length xs ≡ 0) × All P xs) × Segment list at (written_all w xs) next) e ((refl, tt), segment_none list at)
  times_sound (suc n) list at xs next e =
      bind_sound law at _ e λ x mid h s e₁.
      bind_sound (record { sound = times_sound n; complete = times_complete n }) mid _ e₁ λ ys last hs t e₂.
      same_value (λ xs next. ((length xs ≡ suc n) × All P xs) × Segment list at (written_all w xs) next) e₂ ((ap suc hs.0, (h, hs.1)), join s t)

  pub times_law : (n : ℕ) → Law (repeated n r) (λ xs. (length xs ≡ n) × All P xs) (written_all w)
  times_law n = record { sound = times_sound n; complete = times_complete n }

-- The numbers of a list, one after the other, are the list.
singles : (xs : List ℕ) → written_all (λ x. x ∷ []) xs ≡ xs
singles [] = refl
singles (x ∷ xs) = ap {B = List ℕ} (λ ys. x ∷ ys) (singles xs)

-- n numbers that pass a test.
module _ (test : ℕ → Bool) (P : ℕ → Type 0) (reflects : (x : ℕ) → (test x ≡ true) ↔ P x) where
  pub series_law : (n : ℕ) → Law (repeated n (allowed test)) (λ xs. (length xs ≡ n) × All P xs) (λ xs. xs)
  series_law n =
      let law = times_law (number_law test P reflects) n in
      record {
        sound = λ list at xs next e. rw singles at (law.sound list at xs next e);
        complete = λ list at xs next h s. law.complete list at xs next h (rw singles s);
      }
