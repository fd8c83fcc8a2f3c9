-- Laws of a buffer that is zeros from a place on: bytes are put at its front, and what is left of the used ones after them is cleared.
-- Assumes nothing.
use mathlib.Core.Path.{◌≡◌, sym, ◌∙◌, ap, ap₂}
use mathlib.Core.List.{List, ◌++◌}
use Prim.Native.Nat.{ℕ, ◌+◌, ◌-◌, ◌≤◌, ◌<◌}
use native.Mathlib.Omega.{arith}
use lib.ListN.{length, take, drop, replicate-append-replicate, length-append, length-drop, take-append-drop}
use lib.Seq.{drop_at, drop-drop}
use Rattle.buffers.specs.Put.{Put}
use Rattle.buffers.proofs.Puts.{put_front}
use Rattle.layout.specs.Bytes.{zeros, padded, Zeros}
use Rattle.layout.proofs.Bytes.{drop_replicate, zeros_all}

-- a front set to zero, and zeros after it
pub zeros_joined : (n : ℕ) (xs front : List ℕ) → Zeros (drop n xs) → front ≡ zeros (length (take n xs)) → front ++ drop n xs ≡ zeros (length xs)
unfolding Zeros
zeros_joined n xs front back cleared =
    ap₂ ◌++◌ cleared back
    ∙ replicate-append-replicate (length (take n xs)) (length (drop n xs)) 0
    ∙ ap zeros (sym (length-append (take n xs) (drop n xs)) ∙ ap length (take-append-drop n xs))

-- what is zeros from a place on is zeros from any later place on
zeros_later : (n m : ℕ) (xs : List ℕ) → n ≤ m → Zeros (drop n xs) → Zeros (drop m xs)
unfolding Zeros
zeros_later n m xs h back =
    let there : m ≡ n + (m - n) = omega arith in
    zeros_all (length (drop n xs) - (m - n))
    (ap (λ (k : ℕ). drop k xs) there ∙ sym (drop-drop (m - n) n xs) ∙ ap (drop (m - n)) back ∙ drop_replicate (m - n) (length (drop n xs)) 0)

-- bytes put at the front of a buffer that is zeros from place used on
module _ {before bytes after : List ℕ} {end : ℕ} (put : Put before 0 bytes after end) where
  back_kept : drop end after ≡ drop end before
  back_kept = ap (drop end) put.holds ∙ drop_at bytes (drop end before) end (omega (arith, put.ends))

  -- with zeros after them they are padded
  zeros_behind : {rest : List ℕ} → rest ≡ zeros (length (drop end after)) → take end after ++ rest ≡ padded (length before) bytes
  unfolding padded
  zeros_behind behind =
      let left : length (drop end after) ≡ length before - length bytes = omega (arith, ap length back_kept, length-drop end before, put.ends) in
      ap₂ ◌++◌ (put_front put) (behind ∙ ap zeros left)

  module _ (used : ℕ) (clear : Zeros (drop used before)) where
    -- they end before place used, and what is left up to there is cleared
    pub rest_cleared : {cleared : List ℕ} → end < used → cleared ≡ zeros (length (take (used - end) (drop end after)))
        → take end after ++ (cleared ++ drop (used - end) (drop end after)) ≡ padded (length before) bytes
    rest_cleared {cleared} h is =
        let there : end + (used - end) ≡ used = omega arith in
        zeros_behind (zeros_joined (used - end) (drop end after) cleared (rw (back_kept, drop-drop (used - end) end before, there) clear) is)

    -- nothing is left
    pub none_left : used ≤ end → after ≡ padded (length before) bytes
    unfolding Zeros
    none_left h = sym (take-append-drop end after) ∙ zeros_behind (rw back_kept (zeros_later used end before h clear))
