-- The law of a counted series, and of readers that are chosen by a kind from the laws of the parts after the kind.
use mathlib.Core.Path.{◌≡◌, refl}
use mathlib.Core.Bool.{Bool, true, false}
use mathlib.Core.List.{List, [], ◌∷◌, ◌++◌}
use Prim.Native.Nat.{ℕ, ◌+◌}
use borrow.Author.Tests.{eqb-true, eqb-false}
use lib.Dec.{eqb}
use lib.ListN.{length}
use Rattle.order.specs.Order.{Between, All}
use Rattle.order.specs.Reader.{value, Reader, when, allowed, repeated}
use Rattle.order.specs.Grammar.{between, counted}
use Rattle.order.specs.Answers.{number_of}
use Rattle.order.specs.declared.Cursor.{Cursor}
use Rattle.std.specs.Prelude.{Ok}
use Rattle.order.proofs.Answers.{number_value}
use Rattle.order.proofs.Tests.{between_iff}
use Rattle.order.proofs.Segment.{Segment, join}
use Rattle.order.proofs.Law.{Law, number_law, bind_sound, bind_complete}

pub between_law : (low high : ℕ) → Law (allowed (between low high)) (Between low high) (λ x. x ∷ [])
between_law low high = number_law (between low high) (Between low high) (between_iff low high)

-- How many, and that many values.
module _ {A : Type 0} {r : Reader A} {P : A → Type 0} {w : List A → List ℕ} (low high : ℕ) (law : (n : ℕ) → Law (repeated n r) (λ xs. (length xs ≡ n) × All P xs) w) where
  counted_sound : (list : List ℕ) (at : ℕ) (xs : List A) (next : ℕ) → counted low high r list at ≡ value xs next → (Between low high (length xs) × All P xs) × Segment list at (length xs ∷ w xs) next
  counted_sound list at xs next e =
      bind_sound (between_law low high) at _ e λ n mid h s e₁.
      let read = (law n).sound list mid xs next e₁ in
      let first : Segment list at (length xs ∷ []) mid = rw read.0.0 s in
      ((rw read.0.0 h, read.0.1), join first read.1)

  counted_complete : (list : List ℕ) (at : ℕ) (xs : List A) (next : ℕ) → Between low high (length xs) × All P xs → Segment list at (length xs ∷ w xs) next → counted low high r list at ≡ value xs next
  counted_complete list at xs next (h, hs) s =
      bind_complete (between_law low high) _ (length xs) (w xs) h s λ mid t. (law (length xs)).complete list mid xs next (refl, hs) t

  pub counted_law : Law (counted low high r) (λ xs. Between low high (length xs) × All P xs) (λ xs. length xs ∷ w xs)
  counted_law = record { sound = counted_sound; complete = counted_complete }

-- What a number that was read says.
pub between_read : (low high : ℕ) (list : List ℕ) (at : ℕ) {x : ℕ} {next : Cursor} → number_of (allowed (between low high) list at) ≡ Ok (x, next) → Between low high x × (next.at ≡ at + 1)
between_read low high list at {x} {next} e =
    let read = (between_law low high).sound list at x next.at (number_value (allowed (between low high) list at) e) in
    (read.0, read.1.after)

-- The value g was read, within its limits P, and its numbers w after the first ones stand from at up to next.
abbrev pub After : {A : Type 0} → (A → Type 0) → (A → List ℕ) → List ℕ → List ℕ → ℕ → A → ℕ → Type 0
After P w first list at g next = P g × ((u : List ℕ) × (w g ≡ first ++ u) × Segment list at u next)

-- A reader that is chosen by a kind.
pub choose : {A C : Type 0} (kind n : ℕ) (r q : Reader A) {list : List ℕ} {at : ℕ} {a : A} {next : ℕ} → when (eqb kind n) r q list at ≡ value a next → (kind ≡ n → r list at ≡ value a next → C) → ((kind ≡ n → ⊥) → q list at ≡ value a next → C) → C
choose {A} {C} kind n r q {list} {at} {a} {next} e same other = go (eqb kind n) refl e
  where
    go : (b : Bool) → eqb kind n ≡ b → when b r q list at ≡ value a next → C
    go true h e = same (eqb-true kind n h) e
    go false h e = other (eqb-false kind n h) e

-- The first numbers and those after them make the whole.
pub with_first : {A : Type 0} (P : A → Type 0) (w : A → List ℕ) {first : List ℕ} {list : List ℕ} {at mid : ℕ} (g : A) {next : ℕ} → Segment list at first mid → After P w first list mid g next → P g × Segment list at (w g) next
with_first P w g s (p, (u, same, t)) = (p, rw same (join s t))
