-- What `greatest` finds: f is nowhere larger below n, and smaller before it.
-- Assumes nothing.
use mathlib.Core.Path.{◌≡◌, refl}
use mathlib.Core.Logic.{⊎_elim}
use mathlib.Core.Bool.{Bool, true, false, cond}
use Prim.Native.Nat.{ℕ, zero, suc, ◌≤◌, ◌<◌}
use native.Mathlib.Nat.{le_refl, le_of_lt, le_step, lt-suc_self, lt_of_le_of_lt, le_of_suc-le-suc, eq-or-lt_of_le, not-suc-le-zero}
use native.Mathlib.Omega.{arith}
use borrow.Author.Tests.{ltb-true, ltb-false}
use lib.Dec.{ltb}
use Rattle.finite.specs.Greatest.{greatest}

module _ (f : ℕ → ℕ) where
  -- k is the first number below n at which f is largest
  pub record Greatest (n k : ℕ) : Type 0 where
    pub below : k < n
    pub most : (v : ℕ) → v < n → f v ≤ f k
    pub before : (v : ℕ) → v < k → f v < f k

  only : (b : Bool) → Greatest 1 (cond b 0 0)
  only b = only_zero b
    where
      zero_is : Greatest 1 0
      zero_is =
          record {
            below = lt-suc_self 0;
            most = λ v h. ⊎_elim (λ (e : v ≡ 0). rw e (le_refl (f 0))) (λ l. absurd (not-suc-le-zero l)) (eq-or-lt_of_le (le_of_suc-le-suc h));
            before = λ v h. absurd (not-suc-le-zero h);
          }

      only_zero : (b : Bool) → Greatest 1 (cond b 0 0)
      only_zero true = zero_is
      only_zero false = zero_is

  -- one number more
  one_more : (n best : ℕ) → Greatest n best → (b : Bool) → ltb (f best) (f n) ≡ b → Greatest (suc n) (cond b n best)
  one_more n best g true e =
      let larger = ltb-true (f best) (f n) e in
      record {
        below = lt-suc_self n;
        most = λ v h. ⊎_elim (λ (p : v ≡ n). rw p (le_refl (f n))) (λ l. le_of_lt (lt_of_le_of_lt (g.most v l) larger)) (eq-or-lt_of_le (le_of_suc-le-suc h));
        before = λ v h. lt_of_le_of_lt (g.most v h) larger;
      }
  one_more n best g false e =
      record {
        below = le_step g.below;
        most = λ v h. ⊎_elim (λ (p : v ≡ n). rw p (ltb-false (f best) (f n) e)) (g.most v) (eq-or-lt_of_le (le_of_suc-le-suc h));
        before = g.before;
      }

  pub greatest_is : (n : ℕ) → 0 < n → Greatest n (greatest n f)
  unfolding greatest
  greatest_is zero h = absurd (not-suc-le-zero h)
  greatest_is (suc zero) h = only (ltb (f 0) (f 0))
  greatest_is (suc (suc n)) h = one_more (suc n) _ (greatest_is (suc n) (omega arith)) _ refl
