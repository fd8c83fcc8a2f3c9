-- Laws of lists: zeros dropped, the numbers from a on, and pieces, one for each number, one after the other.
-- Assumes nothing.
use mathlib.Core.Path.{◌≡◌, refl, sym, ◌∙◌, ap, ap₂}
use mathlib.Core.Logic.{by_cases}
use mathlib.Core.List.{List, [], ◌∷◌, ◌++◌, map, map-append, flat_map, append_assoc, append-nil}
use Prim.Native.Nat.{ℕ, zero, suc, ◌+◌, ◌-◌, ◌*◌, ◌≤◌, ◌<◌}
use native.Mathlib.Nat.{suc-mul, sub-zero, zero-sub, suc-sub-suc}
use native.Mathlib.Numerals.{add-one}
use native.Mathlib.Decide.{dec_lt}
use native.Mathlib.Omega.{arith}
use lib.Arith.{digits_lt}
use lib.ListN.{length, get_or, drop, replicate, length-append, get_or-append}
use lib.Seq.{get_or-append-add}
use Rattle.finite.specs.Lists.{from}

pub drop_replicate : {A : Type 0} (k n : ℕ) (a : A) → drop k (replicate n a) ≡ replicate (n - k) a
drop_replicate zero n a = rw sub-zero
drop_replicate (suc k) zero a = rw zero-sub
drop_replicate (suc k) (suc n) a = rw suc-sub-suc (drop_replicate k n a)

pub get_d_from : (a n c : ℕ) → c < n → get_or (from a n) c 0 ≡ a + c
unfolding from
get_d_from a zero c h = absurd (omega arith)
get_d_from a (suc n) zero h = let same : a ≡ a + 0 = omega arith in same
get_d_from a (suc n) (suc c) h = get_d_from (suc a) n c (omega arith) ∙ (let same : suc a + c ≡ a + suc c = omega arith in same)

-- one more at the end
from_suc : (a n : ℕ) → from a (suc n) ≡ from a n ++ ((a + n) ∷ [])
unfolding from
from_suc a zero = ap (λ (x : ℕ). x ∷ []) (let same : a ≡ a + 0 = omega arith in same)
from_suc a (suc n) =
    ap (λ (xs : List ℕ). a ∷ xs)
    (from_suc (suc a) n ∙ ap (λ (x : ℕ). from (suc a) n ++ x ∷ []) (let same : suc a + n ≡ a + suc n = omega arith in same))

pub from_next : (a n : ℕ) → from a (n + 1) ≡ from a n ++ ((a + n) ∷ [])
from_next a n = ap (from a) (add-one n) ∙ from_suc a n

pub flat_map_append : {A B : Type 0} (f : A → List B) (xs ys : List A) → flat_map f (xs ++ ys) ≡ flat_map f xs ++ flat_map f ys
unfolding flat_map
flat_map_append f [] ys = refl
flat_map_append f (x ∷ xs) ys = ap (λ zs. f x ++ zs) (flat_map_append f xs ys) ∙ sym (append_assoc (f x) (flat_map f xs) (flat_map f ys))

pub flat_map_suc : {B : Type 0} (f : ℕ → List B) (n : ℕ) → flat_map f (from 0 (suc n)) ≡ flat_map f (from 0 n) ++ f n
unfolding flat_map
flat_map_suc f n =
    ap (flat_map f) (from_suc 0 n)
    ∙ flat_map_append f (from 0 n) ((0 + n) ∷ [])
    ∙ ap (λ ys. flat_map f (from 0 n) ++ ys) (append-nil (f (0 + n)) ∙ ap f (let same : 0 + n ≡ n = omega arith in same))

pub flat_map_next : {B : Type 0} (f : ℕ → List B) (n : ℕ) → flat_map f (from 0 (n + 1)) ≡ flat_map f (from 0 n) ++ f n
flat_map_next f n = ap (λ (k : ℕ). flat_map f (from 0 k)) (add-one n) ∙ flat_map_suc f n

pub map_same : {B : Type 0} (a n : ℕ) (f g : ℕ → B) → ((c : ℕ) → a ≤ c → c < a + n → f c ≡ g c) → map f (from a n) ≡ map g (from a n)
unfolding from
map_same a zero f g same = refl
map_same a (suc n) f g same = ap₂ ◌∷◌ (same a (omega arith) (omega arith)) (map_same (suc a) n f g (λ c h k. same c (omega arith) (omega arith)))

-- one function in the place of another that agrees with it below n
pub map_below : {B : Type 0} (f g : ℕ → B) (n : ℕ) → ((c : ℕ) → c < n → f c ≡ g c) → map f (from 0 n) ≡ map g (from 0 n)
map_below f g n same = map_same 0 n f g (λ c h k. same c (omega arith))

pub flat_map_same : {B : Type 0} (f g : ℕ → List B) (n : ℕ) → ((r : ℕ) → r < n → f r ≡ g r) → flat_map f (from 0 n) ≡ flat_map g (from 0 n)
unfolding flat_map from
flat_map_same f g zero same = refl
flat_map_same f g (suc n) same =
    flat_map_suc f n ∙ ap₂ ◌++◌ (flat_map_same f g n (λ r h. same r (omega arith))) (same n (omega arith)) ∙ sym (flat_map_suc g n)

-- where each piece has m elements
module _ {B : Type 0} (f : ℕ → List B) (m : ℕ) (even : (r : ℕ) → length (f r) ≡ m) where
  pub pieces_length : (n : ℕ) → length (flat_map f (from 0 n)) ≡ n * m
  unfolding flat_map from
  pieces_length zero = let none : 0 ≡ 0 * m = omega arith in none
  pieces_length (suc n) =
      ap length (flat_map_suc f n)
      ∙ length-append (flat_map f (from 0 n)) (f n)
      ∙ ap₂ ◌+◌ (pieces_length n) (even n)
      ∙ sym (suc-mul n m)

  pub pieces_at : (d : B) (n r c : ℕ) → r < n → c < m → get_or (flat_map f (from 0 n)) (r * m + c) d ≡ get_or (f r) c d
  pieces_at d zero r c h k = absurd (omega arith)
  pieces_at d (suc n) r c h k =
      ap (λ xs. get_or xs (r * m + c) d) (flat_map_suc f n)
      ∙ by_cases (dec_lt r n)
      (λ (l : r < n).
      get_or-append (flat_map f (from 0 n)) (f n) d (r * m + c) (rw (pieces_length n) (digits_lt l k)) ∙ pieces_at d n r c l k)
      (λ l.
      let same : r ≡ n = omega arith in
      rw same
      (ap (λ q. get_or (flat_map f (from 0 n) ++ f n) (q + c) d) (sym (pieces_length n)) ∙ get_or-append-add (flat_map f (from 0 n)) (f n) c d))

pub map_flat_map : {A B C : Type 0} (f : B → C) (g : A → List B) (xs : List A) → map f (flat_map g xs) ≡ flat_map (λ x. map f (g x)) xs
unfolding flat_map
map_flat_map f g [] = refl
map_flat_map f g (x ∷ xs) = map-append f (g x) (flat_map g xs) ∙ ap (λ l. map f (g x) ++ l) (map_flat_map f g xs)
