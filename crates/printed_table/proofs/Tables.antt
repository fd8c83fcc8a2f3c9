-- What is printed of a table, as the parts that are put one after the other, and the room that each of them finds.
-- Assumes nothing.
use mathlib.Core.Path.{◌≡◌, ◌∙◌}
use mathlib.Core.List.{List}
use Prim.Native.Nat.{ℕ, ◌+◌, ◌*◌, ◌-◌, ◌≤◌, ◌<◌}
use native.Mathlib.Nat.{suc-mul, mul-le-mul, mul-le-mul_right}
use native.Mathlib.Numerals.{add-one}
use native.Mathlib.Omega.{arith}
use lib.IntN.{ℤ}
use lib.ListN.{length, take, drop, length-append, length-take}
use lib.Seq.{length-take-le}
use mir.Syntax.{w64}
use mir.Val.{SFits}
use Rattle.buffers.specs.Put.{Put, Bytes}
use Rattle.buffers.proofs.Puts.{put_join, put_length}
use Rattle.rows.specs.Rows.{line}
use Rattle.lines.specs.Lines.{header, run_lines, printed}
use Rattle.decimals.proofs.Decimals.{decimal_length}
use Rattle.decimals.proofs.Signed.{signed_word}
use Rattle.lines.proofs.Runs.{runs_snoc, take_small, line_length, runs_length}
use Rattle.printed_table.specs.Room.{answer_room, TableInBuffers}

-- The first n of some runs are put.
pub record RunsPut (columns : ℕ) (cells a : List ℕ) (at n : ℕ) (b : List ℕ) (end : ℕ) : Type 0 where
  pub put : Put a at (run_lines n columns cells) b end

module _ {columns : ℕ} {cells a : List ℕ} {at n : ℕ} {b : List ℕ} {end : ℕ} (so_far : RunsPut columns cells a at n b end) where
  -- Where there is a run more: there is room for its line.
  module _ {runs : ℕ} (more : n < runs) where
    pub run_room : Bytes cells → at + runs * (4 * columns + 1) ≤ length a
        → end + 4 * length (take (n * columns + columns - n * columns) (drop (n * columns) cells)) < length b
    run_room small room =
        let wide = 4 * columns + 1 in
        omega (
          arith,
          so_far.put.ends,
          put_length so_far.put,
          length-take (n * columns + columns - n * columns) (drop (n * columns) cells),
          runs_length n columns cells small,
          suc-mul n wide,
          mul-le-mul_right wide more,
        )

  pub run_next : {c : List ℕ} {end' : ℕ} → Put b end (line (take (n * columns + columns - n * columns) (drop (n * columns) cells))) c end'
      → RunsPut columns cells a at (n + 1) c end'
  run_next q =
      let wide : n * columns + columns - n * columns ≡ columns = omega arith in
      record { put = rw (add-one, runs_snoc) (put_join so_far.put (rw wide at q)) }

header_length : (m n : ℕ) (spare : ℤ) → m < 1000 → n < 1000 → SFits w64 spare → length (header m n spare) ≤ 29
unfolding header
header_length m n spare first second word =
    let left = decimal_length 2 m first in
    let right = decimal_length 2 n second in
    let last = signed_word spare word in
    simp length-append (omega arith)

-- A table within the limits: the header and the level counts are put, then the runs.
module _ {runs columns : ℕ} {levels cells : List ℕ} (fits : TableInBuffers runs columns levels cells) where
  pub many : length (take columns levels) ≡ columns
  many = length-take-le columns levels fits.levels_there

  runs_wide : runs * (4 * columns + 1) ≤ 262656
  runs_wide =
      let wide : 4 * columns + 1 ≤ 513 = omega (arith, fits.narrow) in
      mul-le-mul fits.few wide

  module _ {m n : ℕ} {spare : ℤ} {a b : List ℕ} {j : ℕ} (head : Put a 0 (header m n spare) b j) (first : m < 1000) (second : n < 1000) (word : SFits w64 spare) where
    pub levels_room : answer_room ≤ length a → j + 4 * length (take columns levels) < length b
    levels_room room = omega (arith, many, fits.narrow, head.ends, header_length m n spare first second word, put_length head)

    pub runs_room : {c : List ℕ} {k : ℕ} → Put b j (line (take columns levels)) c k → Bytes levels → answer_room ≤ length a
        → k + runs * (4 * columns + 1) ≤ length c
    runs_room counts small room =
        let long = line_length (take columns levels) (take_small columns levels small) in
        let kept = put_length counts ∙ put_length head in
        omega (arith, many, fits.narrow, head.ends, header_length m n spare first second word, counts.ends, long, kept, runs_wide)

  pub put_printed : (spare : ℤ) {a b c d : List ℕ} {j k l : ℕ} → Put a 0 (header runs columns spare) b j → Put b j (line (take columns levels)) c k
      → Put c k (run_lines runs columns cells) d l → Put a 0 (printed runs spare (take columns levels) cells) d l
  unfolding printed
  put_printed spare head counts q = rw many (put_join (put_join head counts) q)
