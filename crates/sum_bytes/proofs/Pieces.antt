-- A test of every element of a list, and loops that go through a list from its front and put pieces one after the other.
-- Assumes nothing.
use mathlib.Core.Path.{◌≡◌, refl, sym, ◌∙◌, ap, ap₂}
use mathlib.Core.Bool.{Bool, ◌&&◌}
use mathlib.Core.List.{List, [], ◌∷◌, ◌++◌, flat_map, append-nil}
use Prim.Native.Nat.{ℕ, suc, ◌+◌, ◌≤◌, ◌<◌, zero-le}
use native.Mathlib.Nat.{zero-add}
use native.Mathlib.Numerals.{add-one}
use native.Mathlib.Omega.{arith}
use lib.ListN.{length, get_or, take, drop, length-append}
use lib.Seq.{take-suc, take_all, length-take-le, split_at}
use Rattle.std.proofs.lemmas.List.Sums.{sum_by-cons}
use Rattle.finite.specs.Lists.{from}
use Rattle.finite.proofs.Lists.{length_from}
use Rattle.buffers.specs.Put.{Put}
use Rattle.buffers.proofs.Puts.{put_none, put_join, put_next, put_length}
use Rattle.std.specs.List.{list_all, sum_by}
use Rattle.step_tables.specs.Lists.{all_of}
use Rattle.layout.proofs.Bytes.{flat_map_append, get_d_from}

-- ---- every element passes a test

module _ {A : Type 0} (test : A → Bool) where
  -- std's word for what `all` answers recurses as `all_of` does
  pub all_of_is : (xs : List A) → list_all test xs ≡ all_of test xs
  all_of_is [] = refl
  all_of_is (x ∷ xs) = ap (λ b. test x && b) (all_of_is xs)

-- ---- pieces put one after the other

module _ (f : ℕ → List ℕ) (xs : List ℕ) (n : ℕ) (h : n < length xs) where
  -- one more piece, and the rest after it
  more : flat_map f (take (n + 1) xs) ≡ flat_map f (take n xs) ++ f (get_or xs n 0)
  unfolding flat_map
  more =
      ap (flat_map f) (ap (λ (k : ℕ). take k xs) (add-one n) ∙ take-suc xs n 0 h)
      ∙ flat_map_append f (take n xs) (get_or xs n 0 ∷ [])
      ∙ ap (λ (ys : List ℕ). flat_map f (take n xs) ++ ys) (append-nil (f (get_or xs n 0)))

  rest : flat_map f xs ≡ flat_map f (take n xs) ++ (f (get_or xs n 0) ++ flat_map f (drop (suc n) xs))
  unfolding flat_map
  rest = ap (flat_map f) (split_at xs n 0 h) ∙ flat_map_append f (take n xs) (get_or xs n 0 ∷ drop (suc n) xs)

-- The pieces of the first n numbers of a list are put.
pub record Pieces (f : ℕ → List ℕ) (xs a : List ℕ) (i n : ℕ) (b : List ℕ) (j : ℕ) : Type 0 where
  pub among : n ≤ length xs
  pub put : Put a i (flat_map f (take n xs)) b j

pub pieces_none : (f : ℕ → List ℕ) (xs a : List ℕ) (i : ℕ) → i ≤ length a → Pieces f xs a i 0 a i
unfolding flat_map
pieces_none f xs a i h = record { among = zero-le; put = put_none a i h }

module _ {f : ℕ → List ℕ} {xs a : List ℕ} {i n : ℕ} {b : List ℕ} {j : ℕ} (w : Pieces f xs a i n b j) where
  pub pieces_all : length xs ≤ n → Put a i (flat_map f xs) b j
  pieces_all h = rw (take_all n xs h) at w.put

  module _ (h : n < length xs) where
    -- the buffer has room for the next piece
    pub pieces_room : i + length (flat_map f xs) ≤ length a → j + length (f (get_or xs n 0)) ≤ length b
    pieces_room room =
        omega (
          arith,
          put_length w.put,
          w.put.ends,
          ap length (rest f xs n h),
          length-append (flat_map f (take n xs)) (f (get_or xs n 0) ++ flat_map f (drop (suc n) xs)),
          length-append (f (get_or xs n 0)) (flat_map f (drop (suc n) xs)),
        )

    pub pieces_next : {c : List ℕ} {k : ℕ} → Put b j (f (get_or xs n 0)) c k → Pieces f xs a i (n + 1) c k
    pieces_next q = record { among = omega arith; put = rw (more f xs n h) (put_join w.put q) }

-- How long the pieces of a list are together.
pub pieces_length : (f : ℕ → List ℕ) (size : ℕ → ℕ) → ((x : ℕ) → size x ≡ length (f x)) → (xs : List ℕ) → sum_by size xs ≡ length (flat_map f xs)
unfolding flat_map
pieces_length f size e [] = refl
pieces_length f size e (x ∷ xs) = sum_by-cons size x xs ∙ ap₂ ◌+◌ (e x) (pieces_length f size e xs) ∙ sym (length-append (f x) (flat_map f xs))

-- ---- the numbers below m, each with its piece

pub from_at : (m n : ℕ) → n < m → get_or (from 0 m) n 0 ≡ n
from_at m n h = get_d_from 0 m n h ∙ zero-add n

module _ {f : ℕ → List ℕ} {m : ℕ} {a : List ℕ} {i n : ℕ} {b : List ℕ} {j : ℕ} (w : Pieces f (from 0 m) a i n b j) where
  pub below_all : m ≤ n → Put a i (flat_map f (from 0 m)) b j
  below_all h = pieces_all w (rw (length_from 0 m) h)

  module _ (h : n < m) where
    within_count : n < length (from 0 m)
    within_count = rw (length_from 0 m) h

    pub below_room : i + length (flat_map f (from 0 m)) ≤ length a → j + length (f n) ≤ length b
    below_room room = rw (from_at m n h) at (pieces_room w within_count room)

    pub below_next : {c : List ℕ} {k : ℕ} → Put b j (f n) c k → Pieces f (from 0 m) a i (n + 1) c k
    below_next q = pieces_next w within_count (rw (from_at m n h) q)

-- ---- bytes put one by one

-- The first n of some bytes are put.
pub record Front (bytes a : List ℕ) (i n : ℕ) (b : List ℕ) (j : ℕ) : Type 0 where
  pub among : n ≤ length bytes
  pub put : Put a i (take n bytes) b j

pub front_none : (bytes a : List ℕ) (i : ℕ) → i ≤ length a → Front bytes a i 0 a i
front_none bytes a i h = record { among = zero-le; put = put_none a i h }

module _ {bytes a : List ℕ} {i n : ℕ} {b : List ℕ} {j : ℕ} (w : Front bytes a i n b j) where
  pub front_all : length bytes ≤ n → Put a i bytes b j
  front_all h = rw (take_all n bytes h) at w.put

  module _ (h : n < length bytes) where
    pub front_room : i + length bytes ≤ length a → j < length b
    front_room room = omega (arith, put_length w.put, w.put.ends, length-take-le n bytes w.among)

    pub front_next : {c : List ℕ} {k byte : ℕ} → byte ≡ get_or bytes n 0 → Put b j (byte ∷ []) c k → Front bytes a i (n + 1) c k
    front_next e q = record { among = omega arith; put = put_next bytes n h w.put (rw e at q) }
