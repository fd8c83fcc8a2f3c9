-- Bytes that are put one after the other: those that a function gives for the numbers from 0 on, and pieces of equal length.
-- Assumes nothing.
use mathlib.Core.Path.{◌≡◌, sym, ◌∙◌, ap, ap₂}
use mathlib.Core.List.{List, [], ◌∷◌, ◌++◌, map, map-append, flat_map}
use Prim.Native.Nat.{ℕ, zero, suc, ◌+◌, ◌*◌, ◌≤◌, ◌<◌}
use native.Mathlib.Nat.{suc-mul, mul-le-mul_right, zero-add}
use native.Mathlib.Omega.{arith}
use lib.ListN.{length, get_or, take, length-map, length-append}
use lib.Seq.{length-take-le, take_all}
use Rattle.finite.specs.Lists.{from}
use Rattle.finite.proofs.Lists.{length_from}
use Rattle.buffers.specs.Put.{Put}
use Rattle.buffers.proofs.Puts.{put_none, put_join, put_next, put_length}
use Rattle.pieces.proofs.Lists.{from_next, flat_map_suc, flat_map_next}

-- ---- one byte for each number

map_next : (f : ℕ → ℕ) (n : ℕ) → map f (from 0 (n + 1)) ≡ map f (from 0 n) ++ (f n ∷ [])
map_next f n = rw (from_next 0 n, zero-add, map-append)

pub values_none : (f : ℕ → ℕ) {before : List ℕ} {at : ℕ} → at ≤ length before → Put before at (map f (from 0 0)) before at
unfolding from
values_none f h = put_none _ _ h

pub values_next : (f : ℕ → ℕ) {n i j k : ℕ} {a b d : List ℕ} → Put a i (map f (from 0 n)) b j → Put b j (f n ∷ []) d k → Put a i (map f (from 0 (n + 1))) d k
values_next f {n} p q = rw (map_next f n) (put_join p q)

-- there is room for one more below m
pub values_room : (f : ℕ → ℕ) (n m : ℕ) {i j : ℕ} {a b : List ℕ} → Put a i (map f (from 0 n)) b j → n < m → i + m ≤ length a → j < length b
values_room f n m p h room = omega (arith, put_length p, p.ends, length-map (from 0 n) f ∙ length_from 0 n)

-- ---- one piece for each number

pub pieces_none : (f : ℕ → List ℕ) (before : List ℕ) → Put before 0 (flat_map f (from 0 0)) before 0
unfolding from flat_map
pieces_none f before = put_none before 0 (omega arith)

pub pieces_next : (f : ℕ → List ℕ) {n i j k : ℕ} {a b d : List ℕ} → Put a i (flat_map f (from 0 n)) b j → Put b j (f n) d k → Put a i (flat_map f (from 0 (n + 1))) d k
pieces_next f {n} p q = rw (flat_map_next f n) (put_join p q)

-- as many bytes as all of them have, where each has m
pieces_many : (f : ℕ → List ℕ) (m n : ℕ) → ((r : ℕ) → r < n → length (f r) ≡ m) → length (flat_map f (from 0 n)) ≡ n * m
unfolding flat_map from
pieces_many f m zero even = let none : 0 ≡ 0 * m = omega arith in none
pieces_many f m (suc n) even =
    ap length (flat_map_suc f n)
    ∙ length-append (flat_map f (from 0 n)) (f n)
    ∙ ap₂ ◌+◌ (pieces_many f m n (λ r h. even r (omega arith))) (even n (omega arith))
    ∙ sym (suc-mul n m)

-- there is room for one more below N
pub pieces_room : (f : ℕ → List ℕ) (m n N : ℕ) → ((r : ℕ) → r < N → length (f r) ≡ m) → {j : ℕ} {a b : List ℕ} → Put a 0 (flat_map f (from 0 n)) b j → n < N → N * m ≤ length a → j + m ≤ length b
pieces_room f m n N even p h room =
    omega (arith, put_length p, p.ends, pieces_many f m n (λ r k. even r (omega arith)), suc-mul n m, mul-le-mul_right m h)

-- ---- some bytes, one by one

-- the next of some bytes that are put from place 0 on, with their number for the place
pub put_numbered : {a b c : List ℕ} {k : ℕ} (bytes : List ℕ) (n : ℕ) {byte : ℕ} → n < length bytes → get_or bytes n 0 ≡ byte → Put a 0 (take n bytes) b n → Put b n (byte ∷ []) c k → Put a 0 (take (n + 1) bytes) c (n + 1)
put_numbered bytes n h e p q = rw q.ends at (put_next bytes n h p (rw (← e) at q))

-- there is room for the next of some bytes where there is room for all
pub put_room : {a b : List ℕ} {i j : ℕ} (bytes : List ℕ) (n : ℕ) → Put a i (take n bytes) b j → n < length bytes → i + length bytes ≤ length a → j < length b
put_room bytes n p h room = omega (arith, p.ends, put_length p, length-take-le n bytes (omega arith))

-- all of some bytes
pub put_all : {a b bytes : List ℕ} {i j : ℕ} (n : ℕ) → Put a i (take n bytes) b j → length bytes ≤ n → Put a i bytes b j
put_all {bytes} n p h = rw (take_all n bytes h) at p
