-- Searches and comparisons, one byte at a time.
-- Assumes nothing.
use mathlib.Core.Path.{◌≡◌, refl, sym, ◌∙◌, ap, ap₂}
use mathlib.Core.Logic.{◌↔◌}
use mathlib.Core.Bool.{Bool, true, false, cond, ◌&&◌, true≢false, not}
use mathlib.Core.List.{List, [], ◌∷◌}
use Prim.Native.Nat.{ℕ, zero, suc, ◌+◌, ◌-◌, ◌≤◌, ◌<◌}
use native.Mathlib.Numerals.{add-one}
use native.Mathlib.Omega.{arith}
use borrow.Author.Tests.{eq-eqb, ne_eqb, eqb-true, ltb-false}
use lib.Dec.{eqb, ltb}
use lib.ListN.{length, get_or, take, drop, replicate, length-drop, drop_of_length-le}
use lib.Pointwise.{pointwise}
use lib.Seq.{drop-cons, take_all}
use Rattle.std.specs.Prelude.{Option, Some, None}
use Rattle.std.specs.List.{position, position_or_len}
use Rattle.std.specs.Option.{unwrap_or}
use Rattle.std.proofs.lemmas.List.Sums.{prefix_len-le-length}
use Rattle.std.proofs.lemmas.List.Recursion.{is_position_or_len}
use Rattle.byte_texts.specs.Bytes.{first_place, same_bytes, all_zero}

-- The rest of a text from a place on, as a part of it that is lent.
pub rest_whole : (bytes : List ℕ) (at : ℕ) → take (length bytes - at) (drop at bytes) ≡ drop at bytes
rest_whole bytes at = take_all (length bytes - at) (drop at bytes) (omega (arith, length-drop at bytes))

-- The search for a byte, as std says it.
pub first_is : (byte : ℕ) (bytes : List ℕ) → first_place byte bytes ≡ position_or_len (λ b. eqb b byte) bytes
unfolding first_place
first_is byte bytes = is_position_or_len (first_place byte) (λ b. eqb b byte) refl (λ b bs. refl) bytes

first_by_test : (t : Bool) (n m : ℕ) (r : Option ℕ) → ltb n m ≡ t → n ≤ m → r ≡ cond t (Some n) None → unwrap_or r m ≡ n
first_by_test true n m r e h is = rw is refl
first_by_test false n m r e h is = rw is (omega (arith, h, ltb-false n m e))

pub first_position : (byte : ℕ) (bytes : List ℕ) {found : Option ℕ} {place : ℕ} → found ≡ position (λ b. eqb b byte) bytes → place ≡ unwrap_or found (length bytes)
    → place ≡ first_place byte bytes
first_position byte bytes {found} e is =
    is ∙ first_by_test _ _ _ found refl (prefix_len-le-length (λ b. not (eqb b byte)) bytes) e ∙ sym (first_is byte bytes)

-- The first place is within the text, or its end.
pub first_most : (byte : ℕ) (bytes : List ℕ) → first_place byte bytes ≤ length bytes
first_most byte bytes = rw (first_is byte bytes) (prefix_len-le-length (λ b. not (eqb b byte)) bytes)

-- The comparison of two texts, as std says it.
pub same_is : (text other : List ℕ) → pointwise eqb text other ≡ same_bytes text other
unfolding same_bytes
same_is [] [] = refl
same_is [] (c ∷ cs) = refl
same_is (b ∷ bs) [] = refl
same_is (b ∷ bs) (c ∷ cs) = ap (λ t. eqb b c && t) (same_is bs cs)

-- `same_bytes` decides that two texts are equal.
pub same_self : (bytes : List ℕ) → same_bytes bytes bytes ≡ true
unfolding same_bytes
same_self [] = refl
same_self (b ∷ bs) = rw (eq-eqb b b refl) (same_self bs)

both : (t u : Bool) → t && u ≡ true → (t ≡ true) × (u ≡ true)
both true u e = (refl, e)
both false u e = absurd (true≢false (sym e))

same_equal : (text other : List ℕ) → same_bytes text other ≡ true → text ≡ other
unfolding same_bytes
same_equal [] [] e = refl
same_equal [] (c ∷ cs) e = absurd (true≢false (sym e))
same_equal (b ∷ bs) [] e = absurd (true≢false (sym e))
same_equal (b ∷ bs) (c ∷ cs) e =
    let parts = both (eqb b c) (same_bytes bs cs) e in
    ap₂ (λ (x : ℕ) (xs : List ℕ). x ∷ xs) (eqb-true b c parts.0) (same_equal bs cs parts.1)

pub same_iff : (text other : List ℕ) → (same_bytes text other ≡ true) ↔ (text ≡ other)
same_iff text other = (same_equal text other, λ e. rw e (same_self other))

-- Zeros from a place on.
module _ (bytes : List ℕ) (at : ℕ) where
  pub zero_later : at < length bytes → get_or bytes at 0 ≡ 0 → all_zero (drop at bytes) ≡ all_zero (drop (at + 1) bytes)
  unfolding all_zero
  zero_later h e = rw (add-one, drop-cons bytes at 0, eq-eqb _ _ e)

  pub no_zero_here : at < length bytes → (get_or bytes at 0 ≡ 0 → ⊥) → all_zero (drop at bytes) ≡ false
  unfolding all_zero
  no_zero_here h e = rw (drop-cons bytes at 0, ne_eqb _ _ e)

  pub zero_end : length bytes ≤ at → all_zero (drop at bytes) ≡ true
  unfolding all_zero
  zero_end h = rw (drop_of_length-le bytes h)

pub zeros_zero : (n : ℕ) → all_zero (replicate n 0) ≡ true
unfolding all_zero
zeros_zero zero = refl
zeros_zero (suc n) = zeros_zero n
