-- The laws of sums over the numbers below n, each for any range and any summand.
-- Assumes nothing.
use mathlib.Core.Path.{◌≡◌, refl, sym, ◌∙◌, ap, ap₂}
use mathlib.Core.Logic.{⊎_elim}
use Prim.Native.Nat.{ℕ, zero, suc, ◌+◌, ◌*◌, ◌≤◌, ◌<◌}
use native.Mathlib.Nat.{add-zero, zero-add, add-suc, add_assoc, mul-add, mul-zero, zero-mul, one-mul, suc-mul, le_step, le_of_eq, lt-suc_self, le_of_suc-le-suc, eq-or-lt_of_le, not-suc-le-zero, le_dest, le-add_right}
use native.Mathlib.Omega.{arith}
use borrow.Author.Tests.{eq-eqb, ne_eqb}
use lib.Dec.{eqb}
use Rattle.finite.specs.Sum.{sum, bit}
use Rattle.finite.proofs.Tests.{eqb_agree}

-- sums with equal terms are equal
pub sum_ext : (n : ℕ) {f g : ℕ → ℕ} → ((i : ℕ) → i < n → f i ≡ g i) → sum n f ≡ sum n g
unfolding sum
sum_ext zero e = refl
sum_ext (suc n) e = ap₂ ◌+◌ (sum_ext n (λ i h. e i (le_step h))) (e n (lt-suc_self n))

-- a sum of sums, term by term
pub sum_add : (n : ℕ) (f g : ℕ → ℕ) → sum n (λ i. f i + g i) ≡ sum n f + sum n g
unfolding sum
sum_add zero f g = refl
sum_add (suc n) f g = rw (sum_add n f g) (omega arith)

-- n equal terms
pub sum_const : (n c : ℕ) → sum n (λ i. c) ≡ n * c
unfolding sum
sum_const zero c = rw zero-mul
sum_const (suc n) c = rw (suc-mul, sum_const n c)

-- terms that are all zero
pub sum_zero : (n : ℕ) {f : ℕ → ℕ} → ((i : ℕ) → i < n → f i ≡ 0) → sum n f ≡ 0
sum_zero n e = sum_ext n e ∙ sum_const n 0 ∙ mul-zero n

-- a common factor
pub sum_mul : (n c : ℕ) (f : ℕ → ℕ) → sum n (λ i. c * f i) ≡ c * sum n f
unfolding sum
sum_mul zero c f = rw mul-zero
sum_mul (suc n) c f = rw (mul-add, sum_mul n c f)

-- two sums exchanged
pub sum_exchange : (n m : ℕ) (f : ℕ → ℕ → ℕ) → sum n (λ i. sum m (λ j. f i j)) ≡ sum m (λ j. sum n (λ i. f i j))
unfolding sum
sum_exchange zero m f = sym (sum_zero m (λ j h. refl))
sum_exchange (suc n) m f =
    ap (λ x. x + sum m (λ j. f n j)) (sum_exchange n m f) ∙ sym (sum_add m (λ j. sum n (λ i. f i j)) (λ j. f n j))

-- a range cut in two
pub sum_split : (n m : ℕ) (f : ℕ → ℕ) → sum (n + m) f ≡ sum n f + sum m (λ y. f (n + y))
unfolding sum
sum_split n zero f = rw (add-zero n, add-zero)
sum_split n (suc m) f = rw (add-suc, sum_split n m f) (add_assoc _ _ _)

-- a sum over n × m as a double sum
pub sum_product : (n m : ℕ) (f : ℕ → ℕ) → sum (n * m) f ≡ sum n (λ i. sum m (λ y. f (i * m + y)))
unfolding sum
sum_product zero m f = rw zero-mul
sum_product (suc n) m f = rw (suc-mul, sum_split, sum_product n m f)

-- no term is marked by a place that the range does not reach
pub sum_absent : (n a : ℕ) (f : ℕ → ℕ) → n ≤ a → sum n (λ i. bit (eqb a i) * f i) ≡ 0
sum_absent n a f h = sum_zero n {f = λ i. bit (eqb a i) * f i} (λ i l. rw (ne_eqb a i (λ e. omega arith)) (zero-mul (f i)))

-- of the terms marked by the place a, one is left
pub sum_single : (n a : ℕ) (f : ℕ → ℕ) → a < n → sum n (λ i. bit (eqb a i) * f i) ≡ f a
unfolding sum
sum_single zero a f h = absurd (not-suc-le-zero h)
sum_single (suc n) a f h =
    ⊎_elim
    (λ (e : a ≡ n). rw (sum_absent n a f (le_of_eq (sym e)), eq-eqb a n e, one-mul, zero-add, e))
    (λ (l : a < n). rw (sum_single n a f l, ne_eqb a n (λ e. omega arith), zero-mul, add-zero))
    (eq-or-lt_of_le (le_of_suc-le-suc h))

-- a sum split by the value of a function
pub sum_fibres : (n k : ℕ) (g f : ℕ → ℕ) → ((i : ℕ) → i < n → g i < k)
    → sum n f ≡ sum k (λ v. sum n (λ i. bit (eqb (g i) v) * f i))
sum_fibres n k g f below =
    sum_ext n (λ i h. sym (sum_single k (g i) (λ v. f i) (below i h)))
    ∙ sum_exchange n k (λ i v. bit (eqb (g i) v) * f i)

-- the order of the terms does not matter: π permutes the numbers below n, ρ is its inverse
pub sum_permute : (n : ℕ) (π ρ : ℕ → ℕ)
    → ((i : ℕ) → i < n → π i < n)
    → ((i : ℕ) → i < n → ρ i < n)
    → ((i : ℕ) → i < n → ρ (π i) ≡ i)
    → ((i : ℕ) → i < n → π (ρ i) ≡ i)
    → (f : ℕ → ℕ) → sum n (λ i. f (π i)) ≡ sum n f
sum_permute n π ρ πbelow ρbelow ρπ πρ f =
    sum_fibres n n π (λ i. f (π i)) πbelow
    ∙ sum_ext n (λ v h. sum_ext n (λ i l. rw (eqb_agree (π i) v (ρ v) i (λ e. ap ρ (sym e) ∙ ρπ i l) (λ e. ap π (sym e) ∙ πρ v h)))
    ∙ sum_single n (ρ v) (λ i. f (π i)) (ρbelow v h) ∙ ap f (πρ v h))

-- the first term by itself
pub sum_first : (n : ℕ) (f : ℕ → ℕ) → sum (suc n) f ≡ f 0 + sum n (λ i. f (suc i))
unfolding sum
sum_first zero f = omega arith
sum_first (suc n) f = ap (λ x. x + f (suc n)) (sum_first n f) ∙ add_assoc (f 0) (sum n (λ i. f (suc i))) (f (suc n))

-- a sum over more numbers is no less
pub sum_le : {n m : ℕ} (f : ℕ → ℕ) → n ≤ m → sum n f ≤ sum m f
sum_le {n} f h =
    let (k, e) = le_dest h in
    rw (← e, sum_split n k f) (le-add_right _ _)

-- a sum of n numbers of which none is above k
pub sum_most : (n k : ℕ) {f : ℕ → ℕ} → ((i : ℕ) → i < n → f i ≤ k) → sum n f ≤ n * k
unfolding sum
sum_most zero k most = omega arith
sum_most (suc n) k most = omega (arith, sum_most n k (λ i h. most i (le_step h)), most n (lt-suc_self n), suc-mul n k)
