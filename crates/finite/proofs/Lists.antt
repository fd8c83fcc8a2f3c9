-- Lists of numbers that are all below n, the numbers from a on, and the test that two lists are equal.
-- Assumes nothing.
use mathlib.Core.Path.{◌≡◌, refl, sym, ◌∙◌, ap, ap₂, subst}
use mathlib.Core.Logic.{⊎_elim}
use mathlib.Core.Bool.{Bool, true, false, ◌&&◌, and_assoc}
use mathlib.Core.List.{List, [], ◌∷◌, ◌++◌, map, head-eq_of_cons-eq, tail-eq_of_cons-eq}
use Prim.Native.Nat.{ℕ, zero, suc, ◌+◌, ◌≤◌, ◌<◌, suc-le-suc}
use native.Mathlib.Nat.{zero-lt-suc, le_of_suc-le-suc, not-suc-le-zero, suc_inj, suc-ne-zero, eq-or-lt_of_le}
use native.Mathlib.Omega.{arith}
use lib.Dec.{T, eqb, eqb→eq, eqb_refl}
use lib.ListN.{length, get_or, replicate}
use Rattle.finite.specs.Sum.{sum}
use Rattle.finite.specs.Lists.{AllBelow, from}
use Rattle.finite.proofs.Tests.{T_and}
use Rattle.finite.proofs.Sums.{sum_le}

-- ---- all numbers of a list below n

-- `AllBelow`, number by number: what recursions on a list match
pub data Below (n : ℕ) : List ℕ → Type 0 where
  none : Below n []
  more : {x : ℕ} {xs : List ℕ} → x < n → Below n xs → Below n (x ∷ xs)

pub each_below : {n : ℕ} {xs : List ℕ} → Below n xs → AllBelow n xs
unfolding AllBelow
each_below none k l = absurd (not-suc-le-zero l)
each_below (more h b) zero l = h
each_below (more h b) (suc k) l = unfold AllBelow in each_below b k (le_of_suc-le-suc l)

module _ {n : ℕ} where
  pub below_head : {x : ℕ} {xs : List ℕ} → Below n (x ∷ xs) → x < n
  below_head (more h b) = h

  pub below_tail : {x : ℕ} {xs : List ℕ} → Below n (x ∷ xs) → Below n xs
  below_tail (more h b) = b

  pub all_below : (xs : List ℕ) → AllBelow n xs → Below n xs
  unfolding AllBelow
  all_below [] b = none
  all_below (x ∷ xs) b = more (b 0 (zero-lt-suc (length xs))) (all_below xs (λ k l. b (suc k) (suc-le-suc l)))

  pub below_append : {xs ys : List ℕ} → Below n xs → Below n ys → Below n (xs ++ ys)
  below_append none c = c
  below_append (more h b) c = more h (below_append b c)

  pub below_map : {m : ℕ} {f : ℕ → ℕ} {xs : List ℕ} → ((x : ℕ) → x < m → f x < n) → Below m xs → Below n (map f xs)
  below_map h none = none
  below_map h (more {x} l b) = more (h x l) (below_map h b)

  pub below_replicate : (k : ℕ) {x : ℕ} → x < n → Below n (replicate k x)
  below_replicate zero h = none
  below_replicate (suc k) h = more h (below_replicate k h)

  -- the numbers from a on
  pub below_from : (a k : ℕ) → a + k ≤ n → Below n (from a k)
  unfolding from
  below_from a zero h = none
  below_from a (suc k) h = more {x = a} (omega arith) (below_from (suc a) k (omega arith))

-- the numbers of part i, where the parts of so many numbers each stand one after the other, are below the number of all
pub part_below : (us : List ℕ) {i : ℕ} → i < length us → Below (sum (length us) (λ k. get_or us k 0)) (from (sum i (λ k. get_or us k 0)) (get_or us i 0))
unfolding sum
part_below us {i} h = below_from (sum i (λ k. get_or us k 0)) (get_or us i 0) (sum_le (λ k. get_or us k 0) h)

-- numbers below 1 are zeros
pub all_zero : {xs : List ℕ} → Below 1 xs → xs ≡ replicate (length xs) 0
all_zero none = refl
all_zero (more h b) = ap₂ ◌∷◌ (omega arith) (all_zero b)

pub length_from : (a n : ℕ) → length (from a n) ≡ n
unfolding from
length_from a zero = refl
length_from a (suc n) = ap suc (length_from (suc a) n)

-- functions with one list of values on the numbers from a on
pub map_from : (f g : ℕ → ℕ) (a n : ℕ) → map f (from a n) ≡ map g (from a n) → (r : ℕ) → a ≤ r → r < a + n → f r ≡ g r
unfolding from
map_from f g a zero e r h l = absurd (omega arith)
map_from f g a (suc n) e r h l =
    ⊎_elim
    (λ (p : a ≡ r). rw (← p) (head-eq_of_cons-eq e))
    (λ (k : a < r). map_from f g (suc a) n (tail-eq_of_cons-eq e) r k (omega arith))
    (eq-or-lt_of_le h)

pub get_d_map : (f : ℕ → ℕ) (xs : List ℕ) {i : ℕ} → i < length xs → get_or (map f xs) i 0 ≡ f (get_or xs i 0)
get_d_map f [] h = absurd (not-suc-le-zero h)
get_d_map f (x ∷ xs) {i = zero} h = refl
get_d_map f (x ∷ xs) {i = suc i} h = get_d_map f xs (le_of_suc-le-suc h)

-- ---- the test that two lists are equal

unfoldable pub same : List ℕ → List ℕ → Bool
same [] [] = true
same [] (y ∷ ys) = false
same (x ∷ xs) [] = false
same (x ∷ xs) (y ∷ ys) = eqb x y && same xs ys

same_refl : (xs : List ℕ) → T (same xs xs)
unfolding same
same_refl [] = tt
same_refl (x ∷ xs) = (T_and (eqb x x) (same xs xs)).1 (eqb_refl x, same_refl xs)

pub eq→same : {xs ys : List ℕ} → xs ≡ ys → T (same xs ys)
eq→same {xs} e = subst (λ zs. T (same xs zs)) e (same_refl xs)

pub same→eq : (xs ys : List ℕ) → T (same xs ys) → xs ≡ ys
unfolding same
same→eq [] [] h = refl
same→eq [] (y ∷ ys) h = absurd h
same→eq (x ∷ xs) [] h = absurd h
same→eq (x ∷ xs) (y ∷ ys) h =
    let both = (T_and (eqb x y) (same xs ys)).0 h in
    ap₂ ◌∷◌ (eqb→eq x y both.0) (same→eq xs ys both.1)

pub same_append : (xs ys xs' ys' : List ℕ) → length xs ≡ length ys → same (xs ++ xs') (ys ++ ys') ≡ (same xs ys && same xs' ys')
unfolding same
same_append [] [] xs' ys' e = refl
same_append [] (y ∷ ys) xs' ys' e = absurd (suc-ne-zero _ (sym e))
same_append (x ∷ xs) [] xs' ys' e = absurd (suc-ne-zero _ e)
same_append (x ∷ xs) (y ∷ ys) xs' ys' e =
    ap (λ b. eqb x y && b) (same_append xs ys xs' ys' (suc_inj e)) ∙ sym (and_assoc (eqb x y) (same xs ys) (same xs' ys'))
