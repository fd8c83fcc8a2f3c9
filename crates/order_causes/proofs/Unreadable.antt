-- Refusal 2 has the cause that specs/Causes.antt states, at its place, and no other place has it.
-- Assumes nothing.
use mathlib.Core.Path.{◌≡◌, refl, sym, ◌∙◌, ap}
use mathlib.Core.Logic.{◌↔◌}
use mathlib.Core.Bool.{Bool, true, false}
use mathlib.Core.List.{List, [], ◌++◌, append-nil, append_assoc}
use Prim.Native.Nat.{ℕ, ◌+◌, ◌≤◌, ◌<◌}
use native.Mathlib.Nat.{zero-add}
use native.Mathlib.Omega.{arith}
use native.Mathlib.Decide.{dec_le}
use borrow.Author.Tests.{ltb-true, ltb-false}
use lib.Dec.{ltb}
use lib.ListN.{length, take, drop, take-append-drop}
use lib.Seq.{length-take-le, take-length, take-take, take_at, drop-length}
use Rattle.order.specs.Order.{Order, WithinLimits, written}
use Rattle.order.specs.Reader.{Parsed, value, refused, when, continue}
use Rattle.order.specs.Grammar.{read_parts, at_end, read_order, Reads}
use Rattle.order.proofs.Segment.{segment_whole, segment_numbers}
use Rattle.order.proofs.Law.{refused_no_value}
use Rattle.order.proofs.OrderLaw.{parts_law, reads_iff, read_to_end}
use Rattle.order_causes.specs.Causes.{Begins, NotAnOrder, too_long, stops, runs_out}
use Rattle.order_causes.proofs.Prefix.{SameStart, same_fewer, same_length, Completion, value_decided, no_refusal}
use Rattle.order_causes.proofs.Readers.{parts_at_once}

-- The writing of an order within its limits reads as that order.
written_reads : (o : Order) → WithinLimits o → read_parts (written o) 0 ≡ value o (length (written o))
written_reads o h = parts_law.complete (written o) 0 o (length (written o)) h (segment_whole (written o))

begins_reads : {numbers : List ℕ} (b : Begins numbers) → read_parts (written b.order) 0 ≡ value b.order (length (written b.order))
begins_reads b = written_reads b.order b.limits

-- Numbers that can be completed to what reads as an order begin its writing.
completed_begins : (front : List ℕ) → Completion read_parts front 0 → Begins front
completed_begins front c =
    let whole : List ℕ = front ++ c.rest in
    let both = parts_law.sound whole 0 c.read (length whole) c.reads in
    let all : whole ≡ written c.read = both.1.content ∙ rw drop-length (append-nil _) in
    record { order = c.read; limits = both.0; rest = c.rest; writes = sym all }

-- Where the first n numbers begin the writing of an order, that writing starts as the list does.
begins_same : (n : ℕ) (list : List ℕ) → n ≤ length list → (b : Begins (take n list)) → SameStart n list (written b.order)
begins_same n list h b =
    record { long = h; same = rw b.writes (take_at (take n list) b.rest n (length-take-le n list h)) }

module _ (list : List ℕ) (short : length list ≤ 32768) where
  -- The list is refused on the way.
  parts_refused : (place : ℕ) → read_parts list 0 ≡ refused place → NotAnOrder list place
  parts_refused place e =
      let inside = rw e at (parts_at_once.forward list 0 (omega arith)).1 in
      let begun : Begins (take place list) = completed_begins (take place list) (parts_at_once.completes list 0 place (omega arith) e) in
      elim (dec_le (place + 1) (length list)) [
        | yes more ↦ stops short (omega arith) begun λ b.
            let start : SameStart (place + 1) list (written b.order) = begins_same (place + 1) list more b in
            let same : read_parts (written b.order) 0 ≡ read_parts list 0 =
            parts_at_once.decided list (written b.order) 0 (omega arith) (rw e start) in
            refused_no_value (sym e ∙ sym same ∙ begins_reads b)
        | no none ↦
            let there : place ≡ length list = omega arith in
            runs_out short there (rw (there, take-length) at begun) λ o h w.
            let same : read_parts list 0 ≡ value o (length list) = rw w at (written_reads o h) in
            refused_no_value (sym e ∙ same)
      ]

  -- Numbers are left over after an order.
  left_over : (o : Order) (next : ℕ) → read_parts list 0 ≡ value o next → next < length list → NotAnOrder list next
  left_over o next e more =
      let both = parts_law.sound list 0 o next e in
      let long : next ≡ length (written o) = both.1.after ∙ zero-add _ in
      let all : take next list ≡ written o = rw long (segment_numbers both.1) in
      let begun : Begins (take next list) = record { order = o; limits = both.0; rest = []; writes = rw append-nil (sym all) } in
      stops short more begun λ b.
      let start : SameStart (next + 1) list (written b.order) = begins_same (next + 1) list (omega arith) b in
      let same : read_parts (written b.order) 0 ≡ value o next =
      value_decided parts_at_once list (written b.order) 0 (omega arith) e (same_fewer next (omega arith) start) in
      let whole = begins_reads b in
      let ends : next ≡ length (written b.order) = cc in
      omega (arith, same_length start)

  -- Either is what a refusal of a list that is not too long comes from.
  refused_after : (p : Parsed Order) (place : ℕ) → read_parts list 0 ≡ p
      → continue p (λ o next. at_end o list next) ≡ refused place
      → NotAnOrder list place
  refused_after (value o next) place v e = go (ltb next (length list)) refl e
    where
      go : (b : Bool) → ltb next (length list) ≡ b → when b (refused next) (value o (length list)) ≡ refused place → NotAnOrder list place
      go true more e = let same : next ≡ place = cc in rw same at (left_over o next v (ltb-true next (length list) more))
      go false done e = absurd (no_refusal e)
  refused_after (refused there) place v e = let same : there ≡ place = cc in parts_refused place (v ∙ rw same)

-- A refusal has its cause.
pub unreadable : (list : List ℕ) (place : ℕ) → read_order list ≡ refused place → NotAnOrder list place
unfolding read_order
unreadable list place e = go (ltb 32768 (length list)) refl e
  where
    go : (b : Bool) → ltb 32768 (length list) ≡ b
        → when b (refused 32768) (continue (read_parts list 0) (λ o next. at_end o list next)) ≡ refused place
        → NotAnOrder list place
    go true long e = let same : 32768 ≡ place = cc in too_long (ltb-true 32768 (length list) long) (sym same)
    go false short e = refused_after list (ltb-false 32768 (length list) short) (read_parts list 0) place refl e

-- The other way: a list with such a place does not read, and the place is the only one.
module _ (list : List ℕ) where
  -- Fewer numbers begin what more of them do.
  begins_fewer : (m n : ℕ) → m ≤ n → Begins (take n list) → Begins (take m list)
  begins_fewer m n h b =
      let parted : take n list ≡ take m list ++ drop m (take n list) = sym (take-append-drop m (take n list)) ∙ rw take-take in
      record {
        order = b.order;
        limits = b.limits;
        rest = drop m (take n list) ++ b.rest;
        writes = b.writes ∙ ap (λ (front : List ℕ). front ++ b.rest) parted ∙ simp append_assoc;
      }

  not_read : {place : ℕ} → NotAnOrder list place → (o : Order) → Reads list o → ⊥
  not_read {place} (too_long long there) o e = omega (arith, ((reads_iff list o).0 e).0)
  not_read {place} (stops short more begun over) o e =
      let order = (reads_iff list o).0 e in
      over (record { order = o; limits = order.1; rest = drop (place + 1) list; writes = order.2 ∙ sym (take-append-drop (place + 1) list) })
  not_read {place} (runs_out short there begun none) o e = let order = (reads_iff list o).0 e in none o order.1 order.2

  module _ (short : length list ≤ 32768) where
    -- Up to the place the list begins the writing of an order,
    begun_there : {place : ℕ} → NotAnOrder list place → (place ≤ length list) × Begins (take place list)
    begun_there (too_long long there) = absurd (omega arith)
    begun_there (stops _ more begun over) = (omega arith, begun)
    begun_there (runs_out _ there begun none) = (omega arith, rw (there, take-length) begun)

    -- and beyond it no longer.
    not_beyond : {place : ℕ} → NotAnOrder list place → (n : ℕ) → place < n → n ≤ length list → Begins (take n list) → ⊥
    not_beyond (too_long long there) n after inside b = omega arith
    not_beyond {place} (stops _ more begun over) n after inside b = over (begins_fewer (place + 1) n (omega arith) b)
    not_beyond (runs_out _ there begun none) n after inside b = omega arith

    one_place : {p q : ℕ} → NotAnOrder list p → NotAnOrder list q → q ≤ p
    one_place {p} {q} cause other =
        elim (dec_le q p) [
          | yes before ↦ before
          | no after ↦ let there = begun_there other in absurd (not_beyond cause q (omega arith) there.0 there.1)
        ]

  long_place : {place : ℕ} → 32768 < length list → NotAnOrder list place → place ≡ 32768
  long_place long (too_long _ there) = there
  long_place long (stops short more begun over) = absurd (omega arith)
  long_place long (runs_out short there begun none) = absurd (omega arith)

  pub only_place : {p q : ℕ} → NotAnOrder list p → NotAnOrder list q → p ≡ q
  only_place {p} {q} cause other =
      elim (dec_le (length list) 32768) [
        | yes short ↦ omega (arith, one_place short cause other, one_place short other cause)
        | no long ↦ omega (arith, long_place (omega arith) cause, long_place (omega arith) other)
      ]

-- The meaning of refusal 2.
pub unreadable_iff : (list : List ℕ) (place : ℕ) → (read_order list ≡ refused place) ↔ NotAnOrder list place
unreadable_iff list place = (unreadable list place, λ cause. go cause (read_order list) refl)
  where
    go : NotAnOrder list place → (p : Parsed Order) → read_order list ≡ p → read_order list ≡ refused place
    go cause (value o next) e = absurd (not_read list cause o (read_to_end list o next e))
    go cause (refused there) e = e ∙ rw (only_place list (unreadable list there e) cause)
