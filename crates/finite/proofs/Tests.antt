-- Tests that agree: two that hold together are equal, and what a conjunction of tests says.
-- Assumes nothing.
use mathlib.Core.Path.{◌≡◌, refl, sym, ◌∙◌}
use mathlib.Core.Logic.{◌↔◌, by_cases, ⊎_elim}
use mathlib.Core.Bool.{Bool, true, false, ◌&&◌, and-false}
use Prim.Native.Nat.{ℕ, zero, suc, ◌<◌}
use native.Mathlib.Nat.{le_step, lt-suc_self, le_of_suc-le-suc, eq-or-lt_of_le, not-suc-le-zero}
use native.Mathlib.Decide.{ℕ_discrete}
use borrow.Author.Tests.{eq-eqb, ne_eqb}
use lib.Dec.{T, eqb}
use Rattle.finite.specs.Sum.{every}

-- two tests that hold together are equal
pub agree : (a b : Bool) → (T a → T b) → (T b → T a) → a ≡ b
agree true true to from = refl
agree true false to from = absurd (to tt)
agree false true to from = absurd (from tt)
agree false false to from = refl

-- the same of two equations
pub eqb_agree : (a b c d : ℕ) → (a ≡ b → c ≡ d) → (c ≡ d → a ≡ b) → eqb a b ≡ eqb c d
eqb_agree a b c d to from =
    by_cases (ℕ_discrete a b)
    (λ e. eq-eqb a b e ∙ sym (eq-eqb c d (to e)))
    (λ n. ne_eqb a b n ∙ sym (ne_eqb c d (λ e. n (from e))))

-- both tests hold
pub T_and : (a b : Bool) → T (a && b) ↔ (T a × T b)
T_and true b = (λ t. (tt, t), λ p. p.1)
T_and false b = (λ t. absurd t, λ p. p.0)

-- an equation that holds just where two others do
pub eqb_and_agree : (a b c d e f : ℕ) → (a ≡ b → (c ≡ d) × (e ≡ f)) → (c ≡ d → e ≡ f → a ≡ b) → eqb a b ≡ (eqb c d && eqb e f)
eqb_and_agree a b c d e f to from =
    by_cases (ℕ_discrete c d)
    (λ (p : c ≡ d). rw (eq-eqb c d p) (eqb_agree a b e f (λ q. (to q).1) (from p)))
    (λ (n : c ≡ d → ⊥). rw (ne_eqb c d n) (ne_eqb a b (λ q. n (to q).0)))

-- every number below n passes
pub every_all : (n : ℕ) (f : ℕ → Bool) → ((i : ℕ) → i < n → T (f i)) → T (every n f)
unfolding every
every_all zero f h = tt
every_all (suc n) f h = (T_and (every n f) (f n)).1 (every_all n f (λ i l. h i (le_step l)), h n (lt-suc_self n))

pub all_every : (n : ℕ) (f : ℕ → Bool) → T (every n f) → (i : ℕ) → i < n → T (f i)
unfolding every
all_every zero f t i h = absurd (not-suc-le-zero h)
all_every (suc n) f t i h =
    let both = (T_and (every n f) (f n)).0 t in
    ⊎_elim (λ (e : i ≡ n). rw e both.1) (all_every n f both.0 i) (eq-or-lt_of_le (le_of_suc-le-suc h))

-- the same as equations
pub every_true : (n : ℕ) (f : ℕ → Bool) → ((i : ℕ) → i < n → f i ≡ true) → every n f ≡ true
unfolding every
every_true zero f h = refl
every_true (suc n) f h = rw (every_true n f (λ i l. h i (le_step l))) (h n (lt-suc_self n))

pub every_false : (n : ℕ) (f : ℕ → Bool) (i : ℕ) → i < n → f i ≡ false → every n f ≡ false
unfolding every
every_false zero f i h e = absurd (not-suc-le-zero h)
every_false (suc n) f i h e =
    ⊎_elim
    (λ (p : i ≡ n). rw (rw p at e) (and-false (every n f)))
    (λ (l : i < n). rw (every_false n f i l e))
    (eq-or-lt_of_le (le_of_suc-le-suc h))

pub and_left_comm : (a b c : Bool) → (a && (b && c)) ≡ (b && (a && c))
and_left_comm true b c = refl
and_left_comm false true c = refl
and_left_comm false false c = refl

pub T_eqb : (a b : ℕ) → a ≡ b → T (eqb a b)
T_eqb a b e = rw (eq-eqb a b e) tt

pub eqb_sym : (a b : ℕ) → eqb a b ≡ eqb b a
eqb_sym a b = eqb_agree a b b a sym sym
