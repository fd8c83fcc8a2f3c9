-- Where numbers stand in a list: laws to join two such stretches, to part one, and to read its numbers.
use mathlib.Core.Path.{◌≡◌, refl, sym, ◌∙◌, ap}
use mathlib.Core.List.{List, [], ◌∷◌, ◌++◌, append-nil, append_assoc}
use Prim.Native.Nat.{ℕ, ◌+◌, ◌≤◌, ◌<◌}
use native.Mathlib.Numerals.{add-one}
use native.Mathlib.Nat.{add-zero, zero-add}
use native.Mathlib.Omega.{arith}
use lib.ListN.{length, get_or, take, drop, length-append, length-drop, get_or-append}
use lib.Seq.{drop-cons, drop-length, drop-drop, drop-append_seam, take-append_seam, get_or-drop}

-- The numbers u stand in the list from place at up to, and not with, place next.
pub record Segment (list : List ℕ) (at : ℕ) (u : List ℕ) (next : ℕ) : Type 0 where
  pub content : drop at list ≡ u ++ drop next list
  pub after : next ≡ at + length u

pub segment_none : (list : List ℕ) (at : ℕ) → Segment list at [] at
segment_none list at = record { content = refl; after = sym (add-zero at) }

pub segment_whole : (list : List ℕ) → Segment list 0 list (length list)
segment_whole list = record { content = sym (append-nil list) ∙ rw drop-length; after = sym (zero-add (length list)) }

module _ {list : List ℕ} where
  pub join : {at mid next : ℕ} {u v : List ℕ} → Segment list at u mid → Segment list mid v next → Segment list at (u ++ v) next
  join {at} {mid} {next} {u} {v} s t =
      record {
        content = s.content ∙ rw t.content (sym (append_assoc u v (drop next list)));
        after = omega (arith, length-append u v, s.after, t.after);
      }

  behind : {at next : ℕ} (u v : List ℕ) → Segment list at (u ++ v) next → drop (at + length u) list ≡ v ++ drop next list
  behind {at} {next} u v s =
      sym (drop-drop (length u) at list) ∙ rw (s.content, append_assoc) (drop-append_seam u (v ++ drop next list))

  pub part_left : {at next : ℕ} (u v : List ℕ) → Segment list at (u ++ v) next → Segment list at u (at + length u)
  part_left {at} {next} u v s =
      record { content = s.content ∙ append_assoc u v (drop next list) ∙ rw (behind u v s); after = refl }

  pub part_right : {at next : ℕ} (u v : List ℕ) → Segment list at (u ++ v) next → Segment list (at + length u) v next
  part_right {at} {next} u v s =
      record { content = behind u v s; after = omega (arith, length-append u v, s.after) }

  -- The numbers of a segment are those of the list.
  pub segment_numbers : {at next : ℕ} {u : List ℕ} → Segment list at u next → take (length u) (drop at list) ≡ u
  segment_numbers {at} {next} {u} s = rw s.content (take-append_seam u (drop next list))

  -- One number stands at a place where it is below the list's length.
  pub one_number : {at : ℕ} → at < length list → Segment list at (get_or list at 0 ∷ []) (at + 1)
  one_number {at} h = record { content = rw (add-one, drop-cons list at 0); after = refl }

  pub segment_in : {at next : ℕ} {u : List ℕ} → Segment list at u next → (j : ℕ) → j < length u → at + j < length list
  segment_in {at} {next} {u} s j h =
      omega (arith, simp length-append at (ap length s.content), length-drop at list)

  pub segment_at : {at next : ℕ} {u : List ℕ} → Segment list at u next → (j : ℕ) → j < length u → get_or list (at + j) 0 ≡ get_or u j 0
  segment_at {at} {next} {u} s j h =
      sym (get_or-drop at list j 0) ∙ rw s.content (get_or-append u (drop next list) 0 j h)

  pub number_in : {at next x : ℕ} → Segment list at (x ∷ []) next → at < length list
  number_in {at} {next} {x} s = omega (arith, ap length s.content, length-drop at list)

  pub number_is : {at next x : ℕ} → Segment list at (x ∷ []) next → get_or list at 0 ≡ x
  number_is {at} {next} {x} s = let c = s.content in cc (drop-cons list at 0 (number_in s))

  -- Numbers that stand somewhere stand within the list.
  pub segment_fits : {at next : ℕ} {u : List ℕ} → Segment list at u next → 0 < length u → at + length u ≤ length list
  segment_fits {at} {next} {u} s h = omega (arith, simp length-append at (ap length s.content), length-drop at list)
