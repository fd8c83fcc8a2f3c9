-- Parts of a list: w elements from a place on.
-- Assumes nothing.
use mathlib.Core.Path.{◌≡◌, refl, sym, ◌∙◌, ap}
use mathlib.Core.List.{List, [], ◌∷◌, ◌++◌, flat_map}
use Prim.Native.Nat.{ℕ, zero, suc, ◌+◌, ◌-◌, ◌*◌, ◌≤◌, ◌<◌}
use native.Mathlib.Omega.{arith}
use lib.ListN.{length, get_or, take, drop, replicate, length-drop}
use lib.Seq.{take_at, take-take, take-append-le, drop-append-le, drop-append-add, drop-drop}
use Rattle.pieces.proofs.Lists.{drop_replicate}

-- a part of the front of a list
pub front_part : {A : Type 0} (p w : ℕ) (xs ys : List A) → p + w ≤ length xs → take w (drop p (xs ++ ys)) ≡ take w (drop p xs)
front_part p w xs ys h =
    ap (take w) (drop-append-le p xs ys (omega arith)) ∙ take-append-le w (drop p xs) ys (omega (arith, length-drop p xs))

-- a part of what stands after it
pub back_part : {A : Type 0} (p q w : ℕ) (xs ys : List A) → length xs ≡ p → take w (drop (p + q) (xs ++ ys)) ≡ take w (drop q ys)
back_part p q w xs ys e = rw (← e) (ap (take w) (drop-append-add xs ys q))

-- a part of the first m elements
first_part : {A : Type 0} (p w m : ℕ) (xs : List A) → p + w ≤ m → take w (drop p (take m xs)) ≡ take w (drop p xs)
first_part zero w m xs h = take-take w m xs (omega arith)
first_part (suc p) w zero xs h = absurd (omega arith)
first_part (suc p) w (suc m) [] h = refl
first_part (suc p) w (suc m) (x ∷ xs) h = first_part p w m xs (omega arith)

-- a part of equal elements
take_replicate : {A : Type 0} (w n : ℕ) (a : A) → w ≤ n → take w (replicate n a) ≡ replicate w a
take_replicate zero n a h = refl
take_replicate (suc w) zero a h = absurd (omega arith)
take_replicate (suc w) (suc n) a h = ap (λ xs. a ∷ xs) (take_replicate w n a (omega arith))

pub same_part : {A : Type 0} (p w n : ℕ) (a : A) → p + w ≤ n → take w (drop p (replicate n a)) ≡ replicate w a
same_part p w n a h = ap (take w) (drop_replicate p n a) ∙ take_replicate w (n - p) a (omega arith)

-- pieces one after the other, each of m elements: piece k begins after m * k
module _ (f : ℕ → List ℕ) (m : ℕ) where
  -- piece k
  pub piece : (xs : List ℕ) (k : ℕ) → ((i : ℕ) → i < length xs → length (f (get_or xs i 0)) ≡ m) → k < length xs → take m (drop (m * k) (flat_map f xs)) ≡ f (get_or xs k 0)
  unfolding flat_map
  piece [] k even h = absurd (omega arith)
  piece (x ∷ xs) zero even h =
      let first : m * 0 ≡ 0 = omega arith in
      rw first (take_at (f x) (flat_map f xs) m (even 0 (omega arith)))
  piece (x ∷ xs) (suc k) even h =
      let later : m * suc k ≡ m + m * k = omega arith in
      rw later (back_part m (m * k) m (f x) (flat_map f xs) (even 0 (omega arith)) ∙ piece xs k (λ i l. even (suc i) (omega arith)) (omega arith))

  -- a part of piece k
  pub piece_part : (xs : List ℕ) (k p w : ℕ) → ((i : ℕ) → i < length xs → length (f (get_or xs i 0)) ≡ m) → k < length xs → p + w ≤ m → take w (drop (m * k + p) (flat_map f xs)) ≡ take w (drop p (f (get_or xs k 0)))
  piece_part xs k p w even h l =
      ap (take w) (sym (drop-drop p (m * k) (flat_map f xs)))
      ∙ sym (first_part p w m (drop (m * k) (flat_map f xs)) l)
      ∙ ap (λ ys. take w (drop p ys)) (piece xs k even h)
