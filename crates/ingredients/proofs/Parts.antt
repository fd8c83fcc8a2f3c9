-- A part of a list that lies within it: as many numbers as it says, and those of the list from its place on.
-- Assumes nothing.
use mathlib.Core.Path.{◌≡◌, subst}
use mathlib.Core.List.{List}
use Prim.Native.Nat.{ℕ, ◌+◌, ◌≤◌, ◌<◌}
use native.Mathlib.Omega.{arith}
use lib.ListN.{length, get_or, take, drop, length-take, length-drop}
use lib.Seq.{get_or-take, get_or-drop}
use Rattle.buffers.specs.Put.{Bytes}
use Rattle.order.specs.Order.{All}
use Rattle.sheets.proofs.Ingredients.{all_get_d}

module _ (list : List ℕ) (at size : ℕ) (within : at + size ≤ length list) where
  pub part_length : length (take size (drop at list)) ≡ size
  part_length = simp (length-take, length-drop) (omega arith)

  pub part_at : (k : ℕ) → k < size → get_or (take size (drop at list)) k 0 ≡ get_or list (at + k) 0
  part_at k h = rw (get_or-take, get_or-drop)

  -- its numbers fit in bytes where those of the list there do
  pub part_bytes : ((k : ℕ) → k < size → get_or list (at + k) 0 < 256) → Bytes (take size (drop at list))
  unfolding Bytes
  part_bytes small k h = let below : k < size = rw part_length at h in rw (part_at k below) (small k below)

  pub part_byte : Bytes (take size (drop at list)) → (k : ℕ) → k < size → get_or list (at + k) 0 < 256
  unfolding Bytes
  part_byte small k h = rw (part_at k h) at (small k (rw part_length h))

  -- what holds of all of them holds of those of the list
  pub part_all : (P : ℕ → Type 0) → All P (take size (drop at list)) → (k : ℕ) → k < size → P (get_or list (at + k) 0)
  part_all P all k h = subst P (part_at k h) (all_get_d P (take size (drop at list)) all k 0 (rw part_length h))
