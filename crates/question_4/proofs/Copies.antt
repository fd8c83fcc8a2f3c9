-- Numbers that are copied to the front of a buffer of zeros and cleared again leave the buffer as it was.
-- Assumes nothing.
use mathlib.Core.Path.{◌≡◌, refl, sym, ◌∙◌, ap}
use mathlib.Core.List.{List, ◌++◌}
use Prim.Native.Nat.{ℕ, ◌+◌, ◌-◌, ◌≤◌}
use native.Mathlib.Nat.{zero-add}
use native.Mathlib.Omega.{arith}
use lib.ListN.{length, drop, replicate, length-replicate, replicate-append-replicate}
use lib.Seq.{drop_at}
use Rattle.buffers.specs.Put.{Put}

-- zeros at the front
pub put_zeros : (buffer : List ℕ) (n : ℕ) → n ≤ length buffer → Put buffer 0 (replicate n 0) (replicate n 0 ++ drop n buffer) n
put_zeros buffer n h = record { ends = sym (zero-add _ ∙ length-replicate n 0); fits = h; holds = refl }

-- a buffer of zeros in two parts, so that a front of zeros is its own
zeros_parted : (buffer : List ℕ) (n : ℕ) → n ≤ length buffer → buffer ≡ replicate (length buffer) 0 → buffer ≡ replicate n 0 ++ replicate (length buffer - n) 0
zeros_parted buffer n h clear =
    let many : length buffer ≡ n + (length buffer - n) = omega arith in
    clear ∙ ap (λ (k : ℕ). replicate k 0) many ∙ sym (replicate-append-replicate n (length buffer - n) 0)

zeros_front : (buffer : List ℕ) (n : ℕ) → n ≤ length buffer → buffer ≡ replicate (length buffer) 0 → replicate n 0 ++ drop n buffer ≡ buffer
zeros_front buffer n h clear =
    ap (λ (l : List ℕ). replicate n 0 ++ l)
    (ap (drop n) (zeros_parted buffer n h clear) ∙ drop_at (replicate n 0) (replicate (length buffer - n) 0) n (length-replicate n 0))
    ∙ sym (zeros_parted buffer n h clear)

pub put_undone : {a xs b c : List ℕ} {n : ℕ} → a ≡ replicate (length a) 0 → Put a 0 xs b n → Put b 0 (replicate n 0) c n → c ≡ a
put_undone {a} {xs} {b} {c} {n} clear p q =
    let behind : drop n b ≡ drop n a = ap (drop n) p.holds ∙ drop_at xs (drop n a) n (sym (p.ends ∙ zero-add (length xs))) in
    q.holds ∙ ap (λ (l : List ℕ). replicate n 0 ++ l) behind ∙ zeros_front a n p.fits clear
