-- Laws of the lines in specs/Rows.antt: a number more, and the lines as the parts that are put one after the other.
use mathlib.Core.Path.{◌≡◌, refl, sym, ◌∙◌, ap}
use mathlib.Core.List.{List, [], ◌∷◌, ◌++◌, append_assoc, append-nil}
use Prim.Native.Nat.{ℕ, ◌+◌, ◌*◌, ◌-◌, ◌≤◌, ◌<◌, suc-le-suc}
use native.Mathlib.Nat.{mul-suc, mul-le-mul_left}
use native.Mathlib.Numerals.{add-one}
use native.Mathlib.Omega.{arith}
use lib.ListN.{length, get_or, take, drop, length-drop}
use lib.Seq.{take-suc, take_all}
use Rattle.buffers.specs.Put.{Put}
use Rattle.decimals.specs.Decimals.{decimal_digits}
use Rattle.rows.specs.Rows.{spaced, line}
use Rattle.decimals.proofs.Decimals.{decimal_byte}
use mir.Syntax.{w8}
use mir.Val.{Fits}
use Rattle.buffers.proofs.Puts.{put_join, put_length}

spaced_snoc : (ns : List ℕ) (n : ℕ) → spaced (ns ++ (n ∷ [])) ≡ spaced ns ++ (32 ∷ decimal_digits n)
spaced_snoc [] n = append-nil (32 ∷ decimal_digits n)
spaced_snoc (m ∷ ns) n =
    ap (λ (l : List ℕ). (32 ∷ decimal_digits m) ++ l) (spaced_snoc ns n)
    ∙ sym (append_assoc (32 ∷ decimal_digits m) (spaced ns) (32 ∷ decimal_digits n))

-- A byte has fewer than 4 digits.
pub byte_short : {n : ℕ} → Fits w8 n → length (decimal_digits n) < 4
byte_short {n} byte = suc-le-suc (decimal_byte n byte.fits)

-- The first n of some numbers are put, each with a space before it and in at most w bytes.
pub record First (w : ℕ) (ns a : List ℕ) (i n : ℕ) (b : List ℕ) (j : ℕ) : Type 0 where
  pub among : n ≤ length ns
  pub put : Put a i (spaced (take n ns)) b j
  pub small : j ≤ i + w * n

module _ {w : ℕ} {ns a : List ℕ} {i n : ℕ} {b : List ℕ} {j : ℕ} (f : First w ns a i n b j) where
  -- The next number, where there is one and it has fewer than w digits.
  module _ (h : n < length ns) (short : length (decimal_digits (get_or ns n 0)) < w) where
    pub first_room : i + w * length ns < length a → j + length (decimal_digits (get_or ns n 0)) < length b
    first_room room =
        omega (arith, f.small, put_length f.put, mul-suc w n, mul-le-mul_left w h)

    pub first_next : {c : List ℕ} {k : ℕ} → Put b j (32 ∷ decimal_digits (get_or ns n 0)) c k → First w ns a i (n + 1) c k
    first_next q =
        record {
          among = omega arith;
          put = rw (add-one, take-suc ns n 0 h, spaced_snoc) (put_join f.put q);
          small = rw add-one (omega (arith, f.small, q.ends, mul-suc w n));
        }

pub line_more : (n : ℕ) (ns : List ℕ) → line (n ∷ ns) ≡ decimal_digits n ++ (spaced ns ++ (10 ∷ []))
unfolding line
line_more n ns = append_assoc (decimal_digits n) (spaced ns) (10 ∷ [])

-- A line with no number, and one with a first number and the rest of them.
rest : (ns : List ℕ) → take (length ns - 1) (drop 1 ns) ≡ drop 1 ns
rest ns = take_all (length ns - 1) (drop 1 ns) (omega (arith, length-drop 1 ns))

pub rest_length : (ns : List ℕ) → length (take (length ns - 1) (drop 1 ns)) ≡ length ns - 1
rest_length ns = ap length (rest ns) ∙ length-drop 1 ns

module _ {a c : List ℕ} {i k : ℕ} where
  pub row_none : (ns : List ℕ) → length ns ≡ 0 → Put a i (10 ∷ []) c k → Put a i (line ns) c k
  unfolding line
  row_none [] h p = p
  row_none (n ∷ ns) h p = absurd (omega arith)

  pub row_some : (ns : List ℕ) {b : List ℕ} {j : ℕ} → (length ns ≡ 0 → ⊥) → Put a i (decimal_digits (get_or ns 0 0)) b j → Put b j (spaced (take (length ns - 1) (drop 1 ns)) ++ (10 ∷ [])) c k → Put a i (line ns) c k
  row_some [] h p q = absurd (h refl)
  row_some (n ∷ ns) h p q = rw line_more (put_join p (rw (rest (n ∷ ns)) at q))
