-- The tests of single numbers in specs/Grammar.antt hold exactly where the limits of specs/Order.antt do.
use mathlib.Core.Path.{◌≡◌, refl}
use mathlib.Core.Logic.{◌↔◌, ◌⊎◌, inl, inr, ⊎_elim}
use mathlib.Core.Bool.{Bool, true, false, ◌&&◌, ◌||◌, not}
use Prim.Native.Nat.{ℕ, ◌^◌, ◌≤◌}
use native.Mathlib.Omega.{arith}
use borrow.Author.Tests.{le-leb, leb-true, eq-eqb, eqb-true}
use lib.Dec.{leb, eqb}
use Rattle.order.specs.Order.{Between, GeneratorField, FactorWidth, MergePrime, IngredientNumber}
use Rattle.order.specs.Grammar.{between, generator_field, factor_width, merge_prime, ingredient_number, none_or_ingredient}

no_false : {C : Type 0} → false ≡ true → C
no_false e = absurd (let z : ◌≡◌ {A = ℕ} 0 1 = cc in omega arith)

and_iff : {P Q : Type 0} (a b : Bool) → (a ≡ true) ↔ P → (b ≡ true) ↔ Q → ((a && b) ≡ true) ↔ (P × Q)
and_iff true b p q = (λ e. (p.0 refl, q.0 e), λ h. q.1 h.1)
and_iff false b p q = (no_false, λ h. p.1 h.0)

and₃_iff : {P Q R : Type 0} (a b c : Bool) → (a ≡ true) ↔ P → (b ≡ true) ↔ Q → (c ≡ true) ↔ R → ((a && b && c) ≡ true) ↔ (P × Q × R)
and₃_iff a b c p q r =
    let all = and_iff (a && b) c (and_iff a b p q) r in
    (λ e. let h = all.0 e in (h.0.0, h.0.1, h.1), λ h. all.1 ((h.0, h.1), h.2))

or_iff : {P Q : Type 0} (a b : Bool) → (a ≡ true) ↔ P → (b ≡ true) ↔ Q → ((a || b) ≡ true) ↔ (P ⊎ Q)
or_iff true b p q = (λ e. inl (p.0 refl), λ h. refl)
or_iff false b p q = (λ e. inr (q.0 e), ⊎_elim (λ h. no_false (p.1 h)) q.1)

le_iff : (a b : ℕ) → (leb a b ≡ true) ↔ (a ≤ b)
le_iff a b = (leb-true a b, le-leb a b)

eq_iff : (a b : ℕ) → (eqb a b ≡ true) ↔ (a ≡ b)
eq_iff a b = (eqb-true a b, eq-eqb a b)

not_iff : {P : Type 0} (a : Bool) → (a ≡ true) ↔ P → (not a ≡ true) ↔ (P → ⊥)
not_iff true p = (λ e h. no_false e, λ h. absurd (h (p.0 refl)))
not_iff false p = (λ e h. no_false (p.1 h), λ h. refl)

pub between_iff : (low high x : ℕ) → (between low high x ≡ true) ↔ Between low high x
between_iff low high x = and_iff (leb low x) (leb x high) (le_iff low x) (le_iff x high)

pub generator_field_iff : (t s : ℕ) → (generator_field t s ≡ true) ↔ GeneratorField t s
generator_field_iff t s = and₃_iff _ _ _ (between_iff 2 9 s) (not_iff (eqb s 6) (eq_iff s 6)) (le_iff (s ^ t) 512)

pub factor_width_iff : (s u : ℕ) → (factor_width s u ≡ true) ↔ FactorWidth s u
factor_width_iff s u = and_iff (leb 1 u) (leb (s ^ u) 64) (le_iff 1 u) (le_iff (s ^ u) 64)

pub merge_prime_iff : (p : ℕ) → (merge_prime p ≡ true) ↔ MergePrime p
merge_prime_iff p = and₃_iff _ _ _ (between_iff 2 7 p) (not_iff (eqb p 4) (eq_iff p 4)) (not_iff (eqb p 6) (eq_iff p 6))

pub ingredient_number_iff : (i : ℕ) → (ingredient_number i ≡ true) ↔ IngredientNumber i
ingredient_number_iff i = or_iff _ _ (between_iff 1 32 i) (between_iff 101 104 i)

pub none_or_ingredient_iff : (k : ℕ) → (none_or_ingredient k ≡ true) ↔ ((k ≡ 0) ⊎ IngredientNumber k)
none_or_ingredient_iff k = or_iff _ _ (eq_iff k 0) (ingredient_number_iff k)
