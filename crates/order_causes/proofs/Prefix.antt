-- Readers that refuse at once: what stands before a refused place can be completed to what the reader reads, and the numbers up to and with the place
-- decide the refusal. (A parser with this has what is called the correct-prefix property.) Readers one after the other have it if each of them has.
-- Assumes nothing.
use mathlib.Core.Path.{◌≡◌, refl, sym, ◌∙◌, ap}
use mathlib.Core.Bool.{Bool, true, false}
use mathlib.Core.List.{List, [], ◌∷◌, ◌++◌, append-nil, append_assoc}
use Prim.Native.Nat.{ℕ, zero, suc, ◌+◌, ◌≤◌, ◌<◌}
use native.Mathlib.Nat.{le_refl}
use native.Mathlib.Omega.{arith}
use lib.ListN.{length, get_or, take, length-append, length-take}
use lib.Seq.{length-take-le, take-length, take-append-le, take-append_seam, take-take, get_or-take}
use Rattle.order.specs.Reader.{Parsed, value, refused, Reader, when, continue, ◌>>=◌, give, repeated}
use Rattle.order.proofs.Law.{refused_no_value}

-- How far a reading comes: to the place after the value, or to the refused one.
abbrev pub reach : {A : Type 0} → Parsed A → ℕ
reach (value a next) = next
reach (refused place) = place

-- How many numbers decide a reading: those up to the value's end, or up to and with the refused one.
abbrev pub decides : {A : Type 0} → Parsed A → ℕ
decides (value a next) = next
decides (refused place) = place + 1

reach_decides : {A : Type 0} (p : Parsed A) → reach p ≤ decides p
reach_decides (value a next) = le_refl next
reach_decides (refused place) = omega arith

-- A reading from at on goes forward and stays in the list.
abbrev pub Forward : {A : Type 0} → List ℕ → ℕ → Parsed A → Type 0
Forward list at p = (at ≤ reach p) × (reach p ≤ length list)

-- The list has n numbers or more, and the other list starts with the same n.
pub record SameStart (n : ℕ) (list other : List ℕ) : Type 0 where
  pub long : n ≤ length list
  pub same : take n other ≡ take n list

pub same_fewer : {n : ℕ} {list other : List ℕ} (m : ℕ) → m ≤ n → SameStart n list other → SameStart m list other
same_fewer {n} {list} {other} m h s =
    record { long = omega arith; same = sym (take-take m n other h) ∙ rw s.same (take-take m n list h) }

pub same_length : {n : ℕ} {list other : List ℕ} → SameStart n list other → n ≤ length other
same_length {n} {list} {other} s =
    omega (arith, length-take n other, length-take-le n list s.long, ap length s.same)

pub same_number : {n : ℕ} {list other : List ℕ} (k : ℕ) → k < n → SameStart n list other → get_or other k 0 ≡ get_or list k 0
same_number {n} {list} {other} k h s =
    sym (get_or-take n other k 0 h) ∙ rw s.same (get_or-take n list k 0 h)

-- More numbers may follow.
same_append : (front rest : List ℕ) → SameStart (length front) front (front ++ rest)
same_append front rest = record { long = le_refl _; same = take-append_seam front rest ∙ sym (take-length front) }

-- The numbers can be followed by others so that the reader, from place at on, reads a value that ends where they end.
pub record Completion {A : Type 0} (r : Reader A) (front : List ℕ) (at : ℕ) : Type 0 where
  pub rest : List ℕ
  pub read : A
  pub reads : r (front ++ rest) at ≡ value read (length (front ++ rest))

pub record RefusesAtOnce {A : Type 0} (r : Reader A) : Type 0 where
  pub forward : (list : List ℕ) (at : ℕ) → at ≤ length list → Forward list at (r list at)
  pub decided : (list other : List ℕ) (at : ℕ) → at ≤ length list
      → SameStart (decides (r list at)) list other
      → r other at ≡ r list at
  pub completes : (list : List ℕ) (at place : ℕ) → at ≤ length list → r list at ≡ refused place → Completion r (take place list) at

module _ {A : Type 0} {r : Reader A} (at_once : RefusesAtOnce r) where
  -- A value is read in every list that starts with its numbers.
  pub value_decided : (list other : List ℕ) (at : ℕ) {a : A} {next : ℕ} → at ≤ length list
      → r list at ≡ value a next
      → SameStart next list other
      → r other at ≡ value a next
  value_decided list other at inside e same = at_once.decided list other at inside (rw e same) ∙ e

  -- The reader can read at the end of any list.
  at_the_end : (list : List ℕ) → Completion r list (length list)
  at_the_end list = go (r list (length list)) refl (at_once.forward list (length list) (le_refl _))
    where
      go : (p : Parsed A) → r list (length list) ≡ p → Forward list (length list) p → Completion r list (length list)
      go (value a next) e (low, high) =
          let same : next ≡ length list = omega arith in
          record { rest = []; read = a; reads = rw append-nil (e ∙ rw same) }
      go (refused place) e (low, high) =
          let same : place ≡ length list = omega arith in
          rw (same, take-length) at (at_once.completes list (length list) place (le_refl _) e)

-- A value is no refusal.
pub no_refusal : {A : Type 0} {a : A} {place next : ℕ} → value a next ≡ refused place → ⊥
no_refusal e = refused_no_value (sym e)

-- Reading nothing.
pub give_at_once : {A : Type 0} (a : A) → RefusesAtOnce (give a)
give_at_once a =
    record {
      forward = λ list at inside. (le_refl at, inside);
      decided = λ list other at inside same. refl;
      completes = λ list at place inside e. absurd (no_refusal e);
    }

-- The reader reads a somewhere in some list.
abbrev pub Gives : {A : Type 0} → Reader A → A → Type 0
Gives r a = (list : List ℕ) × (at : ℕ) × (next : ℕ) × (r list at ≡ value a next)

-- One reader after the other, where the second is asked only for what the first gives.
module _ {A B : Type 0} {r : Reader A} {f : A → Reader B} (first : RefusesAtOnce r) (second : (a : A) → Gives r a → RefusesAtOnce (f a)) where
  -- The rest of the reading, given what the first comes to.
  abbrev onwards : List ℕ → Parsed A → Parsed B
  onwards list p = continue p (λ a next. f a list next)

  bind_forward : (list : List ℕ) (at : ℕ) → at ≤ length list → Forward list at ((r >>= f) list at)
  bind_forward list at inside = go (r list at) refl (first.forward list at inside)
    where
      go : (p : Parsed A) → r list at ≡ p → Forward list at p → Forward list at (onwards list p)
      go (value a mid) e (low, high) =
          let then = (second a (list, at, mid, e)).forward list mid high in
          (omega arith, then.1)
      go (refused place) e both = both

  bind_decided : (list other : List ℕ) (at : ℕ) → at ≤ length list
      → SameStart (decides ((r >>= f) list at)) list other
      → (r >>= f) other at ≡ (r >>= f) list at
  bind_decided list other at inside same = go (r list at) refl (first.forward list at inside) same
    where
      go : (p : Parsed A) → r list at ≡ p → Forward list at p
          → SameStart (decides (onwards list p)) list other
          → (r >>= f) other at ≡ onwards list p
      go (value a mid) e (low, high) same =
          let at_once = second a (list, at, mid, e) in
          let before : mid ≤ decides (f a list mid) = omega (arith, (at_once.forward list mid high).0, reach_decides (f a list mid)) in
          let as_first : r other at ≡ value a mid = value_decided first list other at inside e (same_fewer mid before same) in
          rw as_first (at_once.decided list other mid high same)
      go (refused place) e both same =
          let as_first : r other at ≡ refused place = first.decided list other at inside (rw e same) ∙ e in
          rw as_first

  -- What completes the first one's numbers, followed by what the second one reads.
  both_complete : (front : List ℕ) (at : ℕ) → at ≤ length front → Completion r front at → Completion (r >>= f) front at
  both_complete front at inside c =
      let whole : List ℕ = front ++ c.rest in
      let more = at_the_end (second c.read (whole, at, length whole, c.reads)) whole in
      let fits : at ≤ length whole = omega (arith, length-append front c.rest) in
      let as_first : r (whole ++ more.rest) at ≡ value c.read (length whole) =
      value_decided first whole (whole ++ more.rest) at fits c.reads (same_append whole more.rest) in
      record {
        rest = c.rest ++ more.rest;
        read = more.read;
        reads = rw (← append_assoc front c.rest more.rest, as_first) more.reads;
      }

  bind_completes : (list : List ℕ) (at place : ℕ) → at ≤ length list
      → (r >>= f) list at ≡ refused place
      → Completion (r >>= f) (take place list) at
  bind_completes list at place inside e = go (r list at) refl (first.forward list at inside) e
    where
      go : (p : Parsed A) → r list at ≡ p → Forward list at p → onwards list p ≡ refused place → Completion (r >>= f) (take place list) at
      go (value a mid) h (low, high) e =
          let at_once = second a (list, at, mid, h) in
          let then = rw e at (at_once.forward list mid high) in
          let c = at_once.completes list mid place high e in
          let front : List ℕ = take place list in
          let short : mid ≤ length front = omega (arith, length-take-le place list then.1, then.0) in
          let start : SameStart mid list (front ++ c.rest) =
          record { long = high; same = take-append-le mid front c.rest short ∙ take-take mid place list then.0 } in
          let as_first : r (front ++ c.rest) at ≡ value a mid = value_decided first list (front ++ c.rest) at inside h start in
          record { rest = c.rest; read = c.read; reads = rw as_first c.reads }
      go (refused there) h (low, high) e =
          let same : there ≡ place = cc in
          let fits : at ≤ length (take place list) = omega (arith, length-take-le place list (rw same at high)) in
          both_complete (take place list) at fits (rw same at (first.completes list at there inside h))

  pub bind_at_once : RefusesAtOnce (r >>= f)
  bind_at_once = record { forward = bind_forward; decided = bind_decided; completes = bind_completes }

-- n times what a reader reads.
pub repeated_at_once : {A : Type 0} {r : Reader A} → RefusesAtOnce r → (n : ℕ) → RefusesAtOnce (repeated n r)
repeated_at_once h zero = give_at_once []
repeated_at_once h (suc n) = bind_at_once h λ x g. bind_at_once (repeated_at_once h n) λ xs g'. give_at_once (x ∷ xs)

-- The one of two readers that a test chooses.
pub when_at_once : {A : Type 0} (b : Bool) {r s : Reader A} → (b ≡ true → RefusesAtOnce r) → (b ≡ false → RefusesAtOnce s)
    → RefusesAtOnce (when b r s)
when_at_once true one other = one refl
when_at_once false one other = other refl
