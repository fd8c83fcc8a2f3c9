-- The laws of counts over the numbers below n, each for any range and any test.
-- Assumes nothing.
use mathlib.Core.Path.{◌≡◌, refl, sym, ◌∙◌, ap, ap₂}
use mathlib.Core.Logic.{by_cases}
use mathlib.Core.Bool.{Bool, true, false, ◌&&◌, and_comm, and-false}
use Prim.Native.Nat.{ℕ, zero, suc, ◌+◌, ◌*◌, ◌≤◌, ◌<◌}
use native.Mathlib.Nat.{mul-one, one-mul, zero-mul, mul-zero, mul_comm, mul_left_comm, le_refl}
use native.Mathlib.Decide.{ℕ_discrete}
use native.Mathlib.Omega.{arith}
use borrow.Author.Tests.{eq-eqb, ne_eqb}
use lib.Dec.{eqb}
use Rattle.finite.specs.Sum.{sum, count, bit}
use Rattle.finite.proofs.Tests.{eqb_sym}
use Rattle.finite.proofs.Sums.{sum_ext, sum_add, sum_const, sum_zero, sum_mul, sum_exchange, sum_single, sum_fibres, sum_product}

pub bit_le : (b : Bool) → bit b ≤ 1
bit_le true = omega arith
bit_le false = omega arith

pub bit_and : (a b : Bool) → bit (a && b) ≡ bit a * bit b
bit_and true b = sym (one-mul (bit b))
bit_and false b = sym (zero-mul (bit b))

-- one number more
pub count_suc : (n : ℕ) (test : ℕ → Bool) → count (suc n) test ≡ count n test + bit (test n)
unfolding count sum
count_suc n test = refl

pub count_none : (test : ℕ → Bool) → count 0 test ≡ 0
unfolding count sum
count_none test = refl

-- tests that agree below n have one count
pub count_ext : (n : ℕ) {f g : ℕ → Bool} → ((i : ℕ) → i < n → f i ≡ g i) → count n f ≡ count n g
unfolding count
count_ext n e = sum_ext n (λ i h. ap bit (e i h))

-- every number passes
pub count_all : (n : ℕ) {f : ℕ → Bool} → ((i : ℕ) → i < n → f i ≡ true) → count n f ≡ n
unfolding count
count_all n e = sum_ext n (λ i h. ap bit (e i h)) ∙ sum_const n 1 ∙ mul-one n

-- no number passes
pub count_never : (n : ℕ) {f : ℕ → Bool} → ((i : ℕ) → i < n → f i ≡ false) → count n f ≡ 0
unfolding count
count_never n e = sum_zero n (λ i h. ap bit (e i h))

pub count_le : (n : ℕ) (f : ℕ → Bool) → count n f ≤ n
count_le zero f = rw count_none (le_refl 0)
count_le (suc n) f = rw count_suc (omega (arith, count_le n f, bit_le (f n)))

-- a test of no number's own
pub count_and : (n : ℕ) (b : Bool) (f : ℕ → Bool) → count n (λ i. b && f i) ≡ bit b * count n f
unfolding count
count_and n b f = sum_ext n (λ i h. bit_and b (f i)) ∙ sum_mul n (bit b) (λ i. bit (f i))

-- a count split by the value of a function
pub count_fibres : (n k : ℕ) (g : ℕ → ℕ) (f : ℕ → Bool) → ((i : ℕ) → i < n → g i < k)
    → count n f ≡ sum k (λ v. count n (λ i. eqb (g i) v && f i))
unfolding count
count_fibres n k g f below =
    sum_fibres n k g (λ i. bit (f i)) below
    ∙ sum_ext k (λ v h. sum_ext n (λ i l. sym (bit_and (eqb (g i) v) (f i))))

-- a count over n × m
pub count_product : (n m : ℕ) (f : ℕ → Bool) → count (n * m) f ≡ sum n (λ i. count m (λ y. f (i * m + y)))
unfolding count
count_product n m f = sum_product n m (λ i. bit (f i))

-- how often two tests of two kinds pass, exchanged
pub count_exchange : (n m : ℕ) (f : ℕ → ℕ → Bool) → sum n (λ i. count m (λ j. f i j)) ≡ sum m (λ j. count n (λ i. f i j))
unfolding count
count_exchange n m f = sum_exchange n m (λ i j. bit (f i j))

-- a test that is the same for every number
pub count_const : (n : ℕ) (b : Bool) → count n (λ i. b) ≡ n * bit b
unfolding count
count_const n b = sum_const n (bit b)

-- each number below n stands once below n
pub count_one : (n v : ℕ) → v < n → count n (λ i. eqb i v) ≡ 1
unfolding count
count_one n v h = sum_ext n (λ i l. ap bit (eqb_sym i v) ∙ sym (mul-one (bit (eqb v i)))) ∙ sum_single n v (λ i. 1) h

-- no number at all
pub share_of_none : (n c : ℕ) (f : ℕ → Bool) → n ≡ 0 → c * count n f ≡ n
share_of_none n c f e = rw (e, count_none) (mul-zero c)

-- a sum, with d more at the numbers that pass
pub sum_more : (n d : ℕ) (f : ℕ → ℕ) (test : ℕ → Bool) → sum n (λ i. f i + d * bit (test i)) ≡ sum n f + d * count n test
unfolding count
sum_more n d f test = sum_add n f (λ i. d * bit (test i)) ∙ ap (λ x. sum n f + x) (sum_mul n d (λ i. bit (test i)))

-- the same of terms c
pub sum_marked : (n c d : ℕ) (test : ℕ → Bool) → sum n (λ i. c + d * bit (test i)) ≡ n * c + d * count n test
sum_marked n c d test = sum_more n d (λ i. c) test ∙ ap (λ x. x + d * count n test) (sum_const n c)

-- where each term is N when multiplied by C, so is the sum of the terms that pass a test, N for each
pub sum_passing : (n C N : ℕ) (f : ℕ → Bool) (g : ℕ → ℕ) → ((v : ℕ) → v < n → C * g v ≡ N)
    → C * sum n (λ v. bit (f v) * g v) ≡ N * count n f
unfolding count
sum_passing n C N f g e =
    sym (sum_mul n C (λ v. bit (f v) * g v))
    ∙ sum_ext n (λ v h. mul_left_comm C (bit (f v)) (g v) ∙ ap (λ x. bit (f v) * x) (e v h) ∙ mul_comm (bit (f v)) N)
    ∙ sum_mul n N (λ v. bit (f v))

-- one for each number, m more for c, and nothing for those that are left out
pub sum_balance : (n m c : ℕ) (f : ℕ → ℕ) (out : ℕ → Bool) → c < n → ((q : ℕ) → q < n → f q + bit (out q) ≡ 1 + m * bit (eqb q c))
    → sum n f + count n out ≡ n + m
unfolding count
sum_balance n m c f out h e =
    sym (sum_add n f (λ q. bit (out q)))
    ∙ sum_ext n e
    ∙ sum_marked n 1 m (λ q. eqb q c)
    ∙ ap₂ ◌+◌ (mul-one n) (ap (λ x. m * x) (count_one n c h) ∙ mul-one m)

-- a count of what passes a test of its own and a test of its value, value by value
pub count_through : (n k : ℕ) (value : ℕ → ℕ) (f test : ℕ → Bool) → ((i : ℕ) → i < n → value i < k)
    → count n (λ i. f i && test (value i)) ≡ sum k (λ v. bit (test v) * count n (λ i. eqb (value i) v && f i))
count_through n k value f test below =
    count_fibres n k value (λ i. f i && test (value i)) below
    ∙ sum_ext k (λ v l. count_ext n (λ i h. at v i) ∙ count_and n (test v) (λ i. eqb (value i) v && f i))
  where
    at : (v i : ℕ) → (eqb (value i) v && (f i && test (value i))) ≡ (test v && (eqb (value i) v && f i))
    at v i =
        by_cases (ℕ_discrete (value i) v)
        (λ e. rw (eq-eqb (value i) v e, ← e) (and_comm (f i) (test (value i))))
        (λ n. rw (ne_eqb (value i) v n) (sym (and-false (test v))))
