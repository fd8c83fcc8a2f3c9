-- What is put into the front part of a buffer is put into the buffer, and the lines of a check come one after the other.
-- Assumes nothing.
use mathlib.Core.Path.{◌≡◌, refl, sym, ◌∙◌, ap}
use mathlib.Core.List.{List, [], ◌∷◌, ◌++◌, append_assoc}
use Prim.Native.Nat.{ℕ, zero, suc, ◌+◌, ◌≤◌}
use native.Mathlib.Omega.{arith}
use lib.IntN.{ℤ}
use lib.ListN.{length, length-append, take, drop, take-append-drop}
use lib.Seq.{length-take-le}
use mir.Syntax.{w64}
use mir.Val.{SFits}
use Rattle.buffers.specs.Put.{Put}
use Rattle.buffers.proofs.Puts.{put_join, put_length}
use Rattle.decimals.proofs.Signed.{signed_word}
use Rattle.written_table.specs.declared.TableCheck.{TableCheck}
use Rattle.check_report.specs.CheckReport.{passing_line, gap_line, pairs_line, check_printed, check_room}

-- the part of the first n from k on, and what is after it
rest_parted : (k n : ℕ) (l : List ℕ) → k ≤ n → drop k (take n l) ++ drop n l ≡ drop k l
rest_parted zero n l h = take-append-drop n l
rest_parted (suc k) zero l h = absurd (omega arith)
rest_parted (suc k) (suc n) [] h = refl
rest_parted (suc k) (suc n) (x ∷ l) h = rest_parted k n l (omega arith)

put_in_front : (a : List ℕ) {xs b : List ℕ} (n : ℕ) {j : ℕ} → n ≤ length a → Put (take n a) 0 xs b j → Put a 0 xs (b ++ drop n a) j
put_in_front a {xs} {b} n {j} h p =
    let short : j ≤ n = omega (arith, p.fits, length-take-le n a h) in
    record {
      ends = p.ends;
      fits = omega arith;
      holds = ap (λ (l : List ℕ). l ++ drop n a) p.holds ∙ append_assoc xs (drop j (take n a)) (drop n a) ∙ ap (λ (l : List ℕ). xs ++ l) (rest_parted j n a short);
    }

-- The line of a gap that fits a word: four characters, at most twenty, and one.
gap_length : (gap : ℤ) → SFits w64 gap → length (gap_line gap) ≤ 25
unfolding gap_line
gap_length gap word = rw length-append (omega (arith, signed_word gap word))

-- A buffer with room for a check, and its front, which has room for the first line.
module _ (a : List ℕ) (room : check_room ≤ length a) where
  long : 155 ≤ length a
  long = omega (arith, room)

  pub front_length : 155 ≡ length (take 155 a)
  front_length = sym (length-take-le 155 a long)

  module _ (check : TableCheck) {b : List ℕ} {j : ℕ} (p : Put (take 155 a) 0 (passing_line check.passing) b j) where
    pub gap_room : j + 25 ≤ length (b ++ drop 155 a)
    gap_room = omega (arith, room, p.fits, front_length, put_length (put_in_front a 155 long p))

    module _ (word : SFits w64 check.gap) {signed : ℤ} {c : List ℕ} {k : ℕ} (e : signed ≡ check.gap) (q : Put (b ++ drop 155 a) j (gap_line signed) c k) where
      pub pairs_room : k + 27 ≤ length c
      pairs_room =
          let short = rw (← e) at (gap_length check.gap word) in
          omega (arith, room, p.fits, front_length, q.ends, short, put_length (put_in_front a 155 long p), put_length q)

      pub check_put : {d : List ℕ} {l : ℕ} → Put c k (pairs_line check.pairs) d l → Put a 0 (check_printed check) d l
      unfolding check_printed
      check_put r = rw (← e) (put_join (put_join (put_in_front a 155 long p) q) r)
