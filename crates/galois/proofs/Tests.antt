-- Tests that antt computes, at every number below n (or every two, or every three) or at every number of a list, and the laws that
-- turn a passed test into the fact at each. Assumes nothing.
use mathlib.Core.Path.{subst⁻¹}
use mathlib.Core.Bool.{Bool, true, ◌&&◌, ◌||◌}
use mathlib.Core.List.{List, [], ◌∷◌, map}
use mathlib.Core.Logic.{◌≢◌, ⊎_elim}
use Prim.Native.Nat.{ℕ, zero, suc, ◌<◌}
use native.Mathlib.Nat.{eq-or-lt_of_le, le_of_suc-le-suc, not-suc-le-zero}
use lib.Dec.{T, eqb}
use mir.Facts.{and_yes, or_yes, eqb_yes}
use Rattle.galois.specs.Arithmetic.{member}

-- the test passes at every number below n
abbrev pub every : ℕ → (ℕ → Bool) → Bool
every zero f = true
every (suc n) f = f n && every n f

abbrev pub every² : ℕ → (ℕ → ℕ → Bool) → Bool
every² n f = every n (λ a. every n (f a))

abbrev pub every³ : ℕ → (ℕ → ℕ → ℕ → Bool) → Bool
every³ n f = every n (λ a. every² n (f a))

pub at : (n : ℕ) (f : ℕ → Bool) → T (every n f) → {k : ℕ} → k < n → T (f k)
at zero f t h = absurd (not-suc-le-zero h)
at (suc n) f t h =
    ⊎_elim (λ e. subst⁻¹ (λ (m : ℕ). T (f m)) e (and_yes (f n) (every n f) t).0)
    (λ l. at n f (and_yes (f n) (every n f) t).1 l)
    (eq-or-lt_of_le (le_of_suc-le-suc h))

pub at² : (n : ℕ) (f : ℕ → ℕ → Bool) → T (every² n f) → {a b : ℕ} → a < n → b < n → T (f a b)
at² n f t {a} ha hb = at n (f a) (at n (λ a. every n (f a)) t ha) hb

pub at³ : (n : ℕ) (f : ℕ → ℕ → ℕ → Bool) → T (every³ n f) → {a b c : ℕ} → a < n → b < n → c < n → T (f a b c)
at³ n f t {a} ha hb hc = at² n (f a) (at n (λ a. every² n (f a)) t ha) hb hc

-- all tests pass, and what that shows
abbrev pub all : List Bool → Bool
all [] = true
all (b ∷ bs) = b && all bs

abbrev pub Passed : List Bool → Type 0
Passed [] = Unit {0}
Passed (b ∷ bs) = T b × Passed bs

pub passed : (bs : List Bool) → T (all bs) → Passed bs
passed [] t = tt
passed (b ∷ bs) t = ((and_yes b (all bs) t).0, passed bs (and_yes b (all bs) t).1)

-- what passes at each of a list passes at its members
pub among : (f : ℕ → Bool) (xs : List ℕ) → T (all (map f xs)) → (x : ℕ) → T (member x xs) → T (f x)
among f [] t x m = absurd m
among f (y ∷ ys) t x m =
    ⊎_elim (λ e. subst⁻¹ (λ (n : ℕ). T (f n)) (eqb_yes e) (and_yes (f y) (all (map f ys)) t).0)
    (λ m. among f ys (and_yes (f y) (all (map f ys)) t).1 x m)
    (or_yes (eqb x y) (member x ys) m)

-- of two tests, where the first is an equation that does not hold, the second passes
pub otherwise : {x y : ℕ} (b : Bool) → x ≢ y → T (eqb x y || b) → T b
otherwise {x} {y} b differ t = ⊎_elim (λ e. absurd (differ (eqb_yes e))) (λ u. u) (or_yes (eqb x y) b t)
