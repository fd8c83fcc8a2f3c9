-- Laws of `run_lines`: one run more, and how long the lines of byte-sized numbers are at most.
use mathlib.Core.Path.{◌≡◌, sym, ◌∙◌, ap}
use mathlib.Core.List.{List, [], ◌∷◌, ◌++◌, append_assoc, append-nil}
use Prim.Native.Nat.{ℕ, zero, suc, ◌+◌, ◌*◌, ◌≤◌, ◌<◌, zero-le, suc-le-suc}
use native.Mathlib.Nat.{zero-mul, suc-mul}
use native.Mathlib.Omega.{arith}
use lib.ListN.{length, take, drop, length-append, length-take, length-drop}
use lib.Seq.{get_or-take, get_or-drop, drop-drop}
use Rattle.buffers.specs.Put.{Bytes}
use Rattle.decimals.specs.Decimals.{decimal_digits}
use Rattle.rows.specs.Rows.{spaced, line}
use Rattle.lines.specs.Lines.{run_lines}
use Rattle.decimals.proofs.Decimals.{decimal_byte, decimal_word}
use mir.Syntax.{w64}
use mir.Val.{Fits}

-- A number of 64 bits has fewer than 21 digits.
pub word_short : {n : ℕ} → Fits w64 n → length (decimal_digits n) < 21
word_short {n} word = suc-le-suc (decimal_word n word.fits)

next : (runs m : ℕ) → m + runs * m ≡ suc runs * m
next runs m = omega (arith, suc-mul runs m)

pub runs_snoc : (runs m : ℕ) (cells : List ℕ) → run_lines (suc runs) m cells ≡ run_lines runs m cells ++ line (take m (drop (runs * m) cells))
runs_snoc zero m cells = rw (append-nil, zero-mul)
runs_snoc (suc runs) m cells =
    ap (λ (l : List ℕ). line (take m cells) ++ l) (runs_snoc runs m (drop m cells))
    ∙ sym (append_assoc (line (take m cells)) (run_lines runs m (drop m cells)) (line (take m (drop (runs * m) (drop m cells)))))
    ∙ ap (λ (l : List ℕ). run_lines (suc runs) m cells ++ line (take m l)) (drop-drop (runs * m) m cells ∙ ap (λ (n : ℕ). drop n cells) (next runs m))

-- Byte-sized numbers: the first, the rest and a part of them.
module _ (n : ℕ) (ns : List ℕ) (small : Bytes (n ∷ ns)) where
  first_short : length (decimal_digits n) ≤ 3
  unfolding Bytes
  first_short = decimal_byte n (small 0 (omega arith))

  rest_small : Bytes ns
  unfolding Bytes
  rest_small k h = small (suc k) (omega arith)

pub take_small : (m : ℕ) (ns : List ℕ) → Bytes ns → Bytes (take m ns)
unfolding Bytes
take_small m ns small k h =
    let short = length-take m ns in
    rw (get_or-take m ns k 0 (omega arith)) (small k (omega arith))

drop_small : (m : ℕ) (ns : List ℕ) → Bytes ns → Bytes (drop m ns)
unfolding Bytes
drop_small m ns small k h = rw (get_or-drop m ns k 0) (small (m + k) (omega (arith, length-drop m ns)))

spaced_length : (ns : List ℕ) → Bytes ns → length (spaced ns) ≤ 4 * length ns
spaced_length [] small = zero-le
spaced_length (n ∷ ns) small =
    omega (arith, length-append (decimal_digits n) (spaced ns), first_short n ns small, spaced_length ns (rest_small n ns small))

pub line_length : (ns : List ℕ) → Bytes ns → length (line ns) ≤ 4 * length ns + 1
unfolding line
line_length [] small = omega arith
line_length (n ∷ ns) small =
    let all = length-append (decimal_digits n ++ spaced ns) (10 ∷ []) in
    omega (arith, all, length-append (decimal_digits n) (spaced ns), first_short n ns small, spaced_length ns (rest_small n ns small))

pub runs_length : (runs m : ℕ) (cells : List ℕ) → Bytes cells → length (run_lines runs m cells) ≤ runs * (4 * m + 1)
runs_length zero m cells small = zero-le
runs_length (suc runs) m cells small =
    let all = length-append (line (take m cells)) (run_lines runs m (drop m cells)) in
    let short = line_length (take m cells) (take_small m cells small) in
    omega (arith, all, short, length-take m cells, runs_length runs m (drop m cells) (drop_small m cells small), suc-mul runs (4 * m + 1))
