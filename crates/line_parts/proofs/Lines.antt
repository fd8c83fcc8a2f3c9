-- The parts of a line, put one after the other.
-- Assumes nothing.
use mathlib.Core.Path.{◌≡◌, ◌∙◌}
use mathlib.Core.List.{List, [], ◌∷◌, ◌++◌, map, map-append, flat_map, append_assoc}
use Prim.Native.Nat.{ℕ, suc, ◌+◌, ◌-◌, ◌*◌, ◌≤◌, ◌<◌}
use native.Mathlib.Numerals.{add-one}
use native.Mathlib.Omega.{arith}
use lib.ListN.{length, get_or, take, length-append, length-map, length-replicate}
use lib.Seq.{take-suc, take_all, length-take-le}
use Rattle.finite.specs.Lists.{from}
use Rattle.finite.proofs.Lists.{length_from}
use Rattle.buffers.specs.Put.{Put}
use Rattle.buffers.proofs.Puts.{put_none, put_join, put_length}
use Rattle.decimals.proofs.Decimals.{decimal_length}
use Rattle.pieces.proofs.Lists.{from_next}
use Rattle.page_text.specs.Pages.{blanks, right_aligned, in_three, closed}
use Rattle.page_text.proofs.Aligned.{aligned_length, three_snoc}
use Rattle.line_parts.specs.Three.{PutThree}

-- ---- numbers one by one

three_none : (a : List ℕ) (i : ℕ) → i ≤ length a → PutThree [] a i a i
unfolding in_three flat_map
three_none a i h = record { put = put_none a i h; width = omega arith }

three_one : {ns a b c : List ℕ} {i j k : ℕ} (n : ℕ) → n < 1000 → PutThree ns a i b j → Put b j (right_aligned 3 n) c k → PutThree (ns ++ (n ∷ [])) a i c k
three_one {ns} n h p q =
    record {
      put = rw (three_snoc ns n) (put_join p.put q);
      width = omega (arith, p.width, q.ends, aligned_length 3 n (decimal_length 2 n h), length-append ns (n ∷ []));
    }

-- as many numbers as columns
pub columns_many : (first n : ℕ) → length (map suc (from first n)) ≡ n
columns_many first n = length-map (from first n) suc ∙ length_from first n

module _ {a : List ℕ} {i : ℕ} where
  -- some numbers
  pub all_none : (ns : List ℕ) → i ≤ length a → PutThree (take 0 ns) a i a i
  all_none ns h = three_none a i h

  pub all_next : (ns : List ℕ) (n : ℕ) {b c : List ℕ} {j k : ℕ} → n < length ns → get_or ns n 0 < 1000 → PutThree (take n ns) a i b j → Put b j (right_aligned 3 (get_or ns n 0)) c k → PutThree (take (n + 1) ns) a i c k
  all_next ns n h small p q = rw (add-one n, take-suc ns n 0 h) (three_one (get_or ns n 0) small p q)

  pub all_room : (ns : List ℕ) (n : ℕ) {b : List ℕ} {j : ℕ} → n < length ns → PutThree (take n ns) a i b j → i + 3 * length ns ≤ length a → j + 3 ≤ length b
  all_room ns n h p room = omega (arith, p.width, put_length p.put, length-take-le n ns (omega arith))

  pub all_done : (ns : List ℕ) (n : ℕ) {b : List ℕ} {j : ℕ} → length ns ≤ n → PutThree (take n ns) a i b j → PutThree ns a i b j
  all_done ns n h p = rw (take_all n ns h) at p

  -- the numbers of columns, which are printed from 1
  pub columns_none : (first : ℕ) → i ≤ length a → PutThree (map suc (from first (first - first))) a i a i
  unfolding from
  columns_none first h = let none : first - first ≡ 0 = omega arith in rw none (three_none a i h)

  pub columns_next : (first column : ℕ) {b c : List ℕ} {j k : ℕ} → first ≤ column → column + 1 < 1000 → PutThree (map suc (from first (column - first))) a i b j → Put b j (right_aligned 3 (column + 1)) c k → PutThree (map suc (from first (column + 1 - first))) a i c k
  columns_next first column l small p q =
      let more : column + 1 - first ≡ (column - first) + 1 = omega arith in
      let last : suc (first + (column - first)) ≡ column + 1 = omega arith in
      rw (more, from_next first (column - first), map-append, last) (three_one (column + 1) small p q)

  -- there is room for one more before end
  pub columns_room : (first column end : ℕ) {b : List ℕ} {j : ℕ} → first ≤ column → column < end → PutThree (map suc (from first (column - first))) a i b j → i + 3 * (end - first) ≤ length a → j + 3 ≤ length b
  columns_room first column end l h p room =
      omega (arith, p.width, put_length p.put, columns_many first (column - first))

-- ---- a whole line

-- a number below 1,000 has room in four characters
pub four_wide : {a b : List ℕ} {i j : ℕ} (n : ℕ) → n < 1000 → Put a i (right_aligned 4 n) b j → j ≡ i + 4
four_wide n h p = omega (arith, p.ends, aligned_length 4 n (decimal_length 3 n (omega arith)))

-- where some blanks end
pub blanks_end : {a b : List ℕ} {i j end : ℕ} → i ≤ end → Put a i (blanks (end - i)) b j → j ≡ end
blanks_end {i = i} {end = end} h p = omega (arith, p.ends, length-replicate {A = ℕ} (end - i) 32)

-- four blanks
pub four_blanks : {a b : List ℕ} {i j : ℕ} → Put a i (blanks (i + 4 - i)) b j → Put a i (blanks 4) b j
four_blanks {i = i} p = let four : i + 4 - i ≡ 4 = omega arith in rw four at p

-- blanks to 79 and the line feed
pub closed_put : {a b c : List ℕ} {i j k : ℕ} (text : List ℕ) → Put a i text b j → Put b j (blanks (i + 79 - j) ++ (10 ∷ [])) c k → Put a i (closed text) c k
unfolding closed
closed_put {i = i} {j = j} text p q =
    let left : i + 79 - j ≡ 79 - length text = omega (arith, p.ends) in
    rw (append_assoc text (blanks (79 - length text)) (10 ∷ [])) (put_join p (rw left at q))

-- after the first four characters: up to 25 numbers, and the end
module _ {a head b : List ℕ} {i j : ℕ} (first : Put a i head b j) (four : j ≡ i + 4) (room : i + 80 ≤ length a) where
  pub numbers_room : (n : ℕ) → n ≤ 25 → j + 3 * n ≤ length b
  numbers_room n few = omega (arith, put_length first)

  module _ {ns c : List ℕ} {k : ℕ} (numbers : PutThree ns b j c k) where
    pub end_room : length ns ≤ 25 → (k ≤ i + 79) × (i + 79 < length c)
    end_room few = (omega (arith, numbers.width), omega (arith, put_length first, put_length numbers.put))

    pub line_put : {d : List ℕ} {l : ℕ} → Put c k (blanks (i + 79 - k) ++ (10 ∷ [])) d l → Put a i (closed (head ++ in_three ns)) d l
    line_put q = closed_put (head ++ in_three ns) (put_join first numbers.put) q
