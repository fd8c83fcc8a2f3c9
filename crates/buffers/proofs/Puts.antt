-- Laws of `Put`: nothing, one byte, and one part after the other.
use mathlib.Core.Path.{◌≡◌, refl, sym, ◌∙◌, ap, ap₂}
use mathlib.Core.List.{List, [], ◌∷◌, ◌++◌, append_assoc, append-nil}
use Prim.Native.Nat.{ℕ, suc, ◌+◌, ◌≤◌, ◌<◌}
use native.Mathlib.Nat.{add-zero}
use native.Mathlib.Numerals.{add-one}
use native.Mathlib.Omega.{arith}
use lib.ListN.{length, get_or, take, drop, set, length-append, length-take, length-drop, take-append-drop, get_or-append}
use lib.Seq.{get_or-take, length-take-le, take-suc, take_at, drop-append-add, drop-drop, set_split, append_snoc}
use Rattle.buffers.specs.Put.{Put}

pub put_none : (before : List ℕ) (at : ℕ) → at ≤ length before → Put before at [] before at
put_none before at h =
    record {
      ends = sym (add-zero at);
      fits = h;
      holds = sym (ap (λ (l : List ℕ). l ++ drop at before) (append-nil (take at before)) ∙ take-append-drop at before);
    }

pub put_byte : (before : List ℕ) (at byte : ℕ) → at < length before → Put before at (byte ∷ []) (set before at byte) (at + 1)
put_byte before at byte h =
    record {
      ends = refl;
      fits = omega arith;
      holds = rw (add-one, append_snoc (take at before) byte (drop (suc at) before)) (set_split before at byte h);
    }

module _ {a : List ℕ} {i : ℕ} {xs b : List ℕ} {j : ℕ} (p : Put a i xs b j) where
  front : length (take i a ++ xs) ≡ j
  front = omega (arith, length-append (take i a) xs, length-take i a, p.ends, p.fits)

  pub put_length : length b ≡ length a
  put_length = ap length p.holds ∙ omega (arith, length-append (take i a ++ xs) (drop j a), front, length-drop j a, p.fits)

  -- Up to the end stands what was there before and then the bytes; from the end on, all is as it was.
  kept_front : take j b ≡ take i a ++ xs
  kept_front = ap (take j) p.holds ∙ take_at (take i a ++ xs) (drop j a) j front

  -- so a byte that stands before them stays
  pub put_before : {k : ℕ} → k < i → get_or b k 0 ≡ get_or a k 0
  put_before {k} h =
      sym (get_or-take j b k 0 (omega (arith, h, p.ends)))
      ∙ ap (λ l. get_or l k 0) kept_front
      ∙ get_or-append (take i a) xs 0 k (omega (arith, h, length-take i a, p.ends, p.fits))
      ∙ get_or-take i a k 0 h

  kept_back : (n : ℕ) → drop (j + n) b ≡ drop (j + n) a
  kept_back n =
      ap (drop (j + n)) p.holds
      ∙ (rw front at (drop-append-add (take i a ++ xs) (drop j a) n))
      ∙ drop-drop n j a

  pub put_join : {ys c : List ℕ} {k : ℕ} → Put b j ys c k → Put a i (xs ++ ys) c k
  put_join {ys} {c} {k} q =
      record {
        ends = omega (arith, p.ends, q.ends, length-append xs ys);
        fits = omega (arith, q.fits, put_length);
        holds =
            q.holds
            ∙ ap₂ (λ (u v : List ℕ). u ++ ys ++ v) kept_front
            (ap (λ (n : ℕ). drop n b) q.ends ∙ kept_back (length ys) ∙ ap (λ (n : ℕ). drop n a) (sym q.ends))
            ∙ ap (λ (l : List ℕ). l ++ drop k a) (append_assoc (take i a) xs ys);
      }

-- The next of some bytes that are put one by one.
pub put_next : {a b c : List ℕ} {i j k : ℕ} (bytes : List ℕ) (n : ℕ) → n < length bytes → Put a i (take n bytes) b j → Put b j (get_or bytes n 0 ∷ []) c k → Put a i (take (n + 1) bytes) c k
put_next bytes n h p q = rw (add-one, take-suc bytes n 0 h) (put_join p q)

-- What a program writes: the part of the buffer up to the end is long enough, and is the bytes where they were put from place 0 on.
pub put_part : {a : List ℕ} {i : ℕ} {xs b : List ℕ} {j : ℕ} → Put a i xs b j → j ≡ length (take j b)
put_part {j = j} p = sym (length-take-le j _ (omega (arith, p.fits, put_length p)))

pub put_front : {a xs b : List ℕ} {j : ℕ} → Put a 0 xs b j → take j b ≡ xs
put_front p = kept_front p
