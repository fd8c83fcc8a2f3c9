-- The readers of numbers refuse at once: of one number, if the test allows any, and of n numbers of any size, which are refused only where the list
-- runs out.
-- Assumes nothing.
use mathlib.Core.Path.{◌≡◌, refl, sym, ◌∙◌}
use mathlib.Core.Bool.{Bool, true, false}
use mathlib.Core.List.{List, [], ◌∷◌, ◌++◌}
use Prim.Native.Nat.{ℕ, ◌+◌, ◌-◌, ◌≤◌, ◌<◌}
use native.Mathlib.Nat.{le_refl}
use native.Mathlib.Omega.{arith}
use borrow.Author.Tests.{lt-ltb, le-leb, ltb-true, ltb-false, leb-true, leb-false}
use lib.Dec.{ltb, leb}
use lib.ListN.{length, get_or, take, drop, replicate, length-append, length-replicate}
use lib.Seq.{length-take-le, take-length, take-add, drop_at, get_or-append_seam}
use Rattle.order.specs.Reader.{Parsed, value, refused, Reader, when, allowed, numbers}
use Rattle.order.specs.Grammar.{between, counted}
use Rattle.order.proofs.Tests.{between_iff}
use Rattle.order_causes.proofs.Prefix.{decides, Forward, SameStart, same_length, same_number, Completion, no_refusal}
use Rattle.order_causes.proofs.Prefix.{RefusesAtOnce, bind_at_once, repeated_at_once}

module _ (test : ℕ → Bool) where
  -- The number x is read, or refused.
  abbrev tested : ℕ → ℕ → Parsed ℕ
  tested at x = when (test x) (value x (at + 1)) (refused at)

  allowed_there : (list : List ℕ) (at : ℕ) → at < length list → allowed test list at ≡ tested at (get_or list at 0)
  unfolding allowed
  allowed_there list at h = rw (lt-ltb at (length list) h)

  -- The number at a place is read or refused, or the list runs out.
  allowed_cases : (list : List ℕ) (at : ℕ) (C : Parsed ℕ → Type 0)
      → (at < length list → test (get_or list at 0) ≡ true → C (value (get_or list at 0) (at + 1)))
      → (at < length list → test (get_or list at 0) ≡ false → C (refused at))
      → (length list ≤ at → C (refused (length list)))
      → C (allowed test list at)
  unfolding allowed
  allowed_cases list at C taken barred short = go (ltb at (length list)) (test (get_or list at 0)) refl refl
    where
      go : (b c : Bool) → ltb at (length list) ≡ b → test (get_or list at 0) ≡ c
          → C (when b (when c (value (get_or list at 0) (at + 1)) (refused at)) (refused (length list)))
      go true true h e = taken (ltb-true at (length list) h) e
      go true false h e = barred (ltb-true at (length list) h) e
      go false c h e = short (ltb-false at (length list) h)

  allowed_forward : (list : List ℕ) (at : ℕ) → at ≤ length list → Forward list at (allowed test list at)
  allowed_forward list at inside =
      allowed_cases list at (Forward list at) (λ h e. (omega arith, omega arith)) (λ h e. (le_refl at, inside)) (λ h. (inside, le_refl _))

  same_there : (list other : List ℕ) (at : ℕ) → SameStart (at + 1) list other → allowed test other at ≡ tested at (get_or list at 0)
  same_there list other at s =
      let inside : at < length other = omega (arith, same_length s) in
      allowed_there other at inside ∙ rw (same_number at (omega arith) s)

  allowed_decided : (list other : List ℕ) (at : ℕ) → at ≤ length list
      → SameStart (decides (allowed test list at)) list other
      → allowed test other at ≡ allowed test list at
  allowed_decided list other at inside =
      allowed_cases list at (λ p. SameStart (decides p) list other → allowed test other at ≡ p)
      (λ h e s. same_there list other at s ∙ rw e)
      (λ h e s. same_there list other at s ∙ rw e)
      (λ h s. absurd (omega (arith, s.long)))

  module _ (x : ℕ) (passes : test x ≡ true) where
    -- The number x can stand at the refused place.
    followed : (front : List ℕ) (at : ℕ) → length front ≡ at → Completion (allowed test) front at
    followed front at there =
        let inside : length front < length (front ++ x ∷ []) = omega (arith, length-append front (x ∷ [])) in
        let number : get_or (front ++ x ∷ []) (length front) 0 ≡ x = get_or-append_seam front x [] 0 in
        let long : length (front ++ x ∷ []) ≡ length front + 1 = length-append front (x ∷ []) in
        record { rest = x ∷ []; read = x; reads = rw (← there) (allowed_there _ (length front) inside ∙ rw (number, passes, long)) }

    allowed_completes : (list : List ℕ) (at place : ℕ) → at ≤ length list
        → allowed test list at ≡ refused place
        → Completion (allowed test) (take place list) at
    allowed_completes list at place inside =
        allowed_cases list at (λ p. p ≡ refused place → Completion (allowed test) (take place list) at)
        (λ h e r. absurd (no_refusal r))
        (λ h e r. let same : at ≡ place = cc in followed (take place list) at (rw (← same) (length-take-le at list inside)))
        (λ h r. let same : length list ≡ place = cc in followed (take place list) at (rw (← same, take-length) (omega arith)))

    pub allowed_at_once : RefusesAtOnce (allowed test)
    allowed_at_once = record { forward = allowed_forward; decided = allowed_decided; completes = allowed_completes }

-- A number from low to high, and that many times what a reader reads.
pub between_at_once : (low high : ℕ) → low ≤ high → RefusesAtOnce (allowed (between low high))
between_at_once low high h = allowed_at_once (between low high) low ((between_iff low high low).1 (le_refl low, h))

pub counted_at_once : {A : Type 0} {r : Reader A} (low high : ℕ) → low ≤ high → RefusesAtOnce r → RefusesAtOnce (counted low high r)
counted_at_once low high h at_once = bind_at_once (between_at_once low high h) λ n g. repeated_at_once at_once n

module _ (n : ℕ) where
  numbers_there : (list : List ℕ) (at : ℕ) → at + n ≤ length list → numbers n list at ≡ value (take n (drop at list)) (at + n)
  unfolding numbers
  numbers_there list at h = let fits : n ≤ length list - at = omega arith in rw (le-leb n (length list - at) fits)

  -- n numbers are read, or the list runs out.
  numbers_cases : (list : List ℕ) (at : ℕ) → at ≤ length list → (C : Parsed (List ℕ) → Type 0)
      → (at + n ≤ length list → C (value (take n (drop at list)) (at + n)))
      → (length list < at + n → C (refused (length list)))
      → C (numbers n list at)
  unfolding numbers
  numbers_cases list at inside C taken short = go (leb n (length list - at)) refl
    where
      go : (b : Bool) → leb n (length list - at) ≡ b → C (when b (value (take n (drop at list)) (at + n)) (refused (length list)))
      go true h = taken (omega (arith, leb-true n (length list - at) h))
      go false h = short (omega (arith, leb-false n (length list - at) h))

  numbers_forward : (list : List ℕ) (at : ℕ) → at ≤ length list → Forward list at (numbers n list at)
  numbers_forward list at inside =
      numbers_cases list at inside (Forward list at) (λ h. (omega arith, h)) (λ h. (inside, le_refl _))

  -- The n numbers from at on are among the first at + n.
  among : (list : List ℕ) (at : ℕ) → at ≤ length list → take n (drop at list) ≡ drop at (take (at + n) list)
  among list at inside = sym (drop_at (take at list) (take n (drop at list)) at (length-take-le at list inside)) ∙ rw take-add

  numbers_decided : (list other : List ℕ) (at : ℕ) → at ≤ length list
      → SameStart (decides (numbers n list at)) list other
      → numbers n other at ≡ numbers n list at
  numbers_decided list other at inside =
      numbers_cases list at inside (λ p. SameStart (decides p) list other → numbers n other at ≡ p)
      (λ h s.
      let long = same_length s in
      let same : take n (drop at other) ≡ take n (drop at list) = among other at (omega arith) ∙ rw s.same (sym (among list at inside)) in
      numbers_there other at long ∙ rw same)
      (λ h s. absurd (omega (arith, s.long)))

  -- As many more numbers as are missing can follow.
  followed_by : (list : List ℕ) (at : ℕ) (missing : List ℕ) → at + n ≡ length list + length missing → Completion (numbers n) list at
  followed_by list at missing enough =
      let ends : at + n ≡ length (list ++ missing) = omega (arith, length-append list missing) in
      record {
        rest = missing;
        read = take n (drop at (list ++ missing));
        reads = numbers_there (list ++ missing) at (omega arith) ∙ rw ends;
      }

  numbers_completes : (list : List ℕ) (at place : ℕ) → at ≤ length list
      → numbers n list at ≡ refused place
      → Completion (numbers n) (take place list) at
  numbers_completes list at place inside =
      numbers_cases list at inside (λ p. p ≡ refused place → Completion (numbers n) (take place list) at)
      (λ h r. absurd (no_refusal r))
      (λ h r.
      let same : length list ≡ place = cc in
      let many = length-replicate {A = ℕ} (at + n - length list) 0 in
      rw (← same, take-length) (followed_by list at (replicate (at + n - length list) 0) (omega (arith, many))))

  pub numbers_at_once : RefusesAtOnce (numbers n)
  numbers_at_once = record { forward = numbers_forward; decided = numbers_decided; completes = numbers_completes }
