-- Counters that are filled run by run hold the counts of the keys; and what the answer says of the search.
-- Assumes nothing.
use mathlib.Core.Path.{◌≡◌, refl, sym, ◌∙◌, ap}
use mathlib.Core.Bool.{true, false}
use mathlib.Core.Logic.{by_cases}
use mathlib.Core.List.{List, [], ◌∷◌}
use mathlib.Core.Option.{Option, none, some}
use Prim.Native.Nat.{ℕ, zero, suc, ◌+◌, ◌≤◌, ◌<◌}
use native.Mathlib.Numerals.{add-one}
use native.Mathlib.Decide.{ℕ_discrete}
use native.Mathlib.Nat.{add-zero}
use borrow.Author.Tests.{eq-eqb, ne_eqb}
use native.Mathlib.Omega.{arith}
use lib.Dec.{eqb}
use mir.Syntax.{w16}
use mir.Val.{Fits}
use lib.ListN.{get_or, set, length-set, replicate, length-replicate}
use lib.Seq.{get_or-set_same, get_or-set_other}
use Rattle.std.specs.Prelude.{Some, None, is_some}
use Rattle.std.specs.Prelude as Prelude
use Rattle.finite.proofs.Counts.{count_suc, count_none, count_never, count_le}
use Rattle.counting.specs.Verdict.{Counted, deviation}
use Rattle.counting.proofs.Deviations.{deviation_ext}
use Rattle.tally.specs.Tally.{Cleared, Tallied, keys_deviation, as_deviation}
use Rattle.tally.specs.declared.Deviation.{Deviation}

get_d_zeros : (n k : ℕ) → ◌≡◌ {A = ℕ} (get_or (replicate n 0) k 0) 0
get_d_zeros zero k = refl
get_d_zeros (suc n) zero = refl
get_d_zeros (suc n) (suc k) = get_d_zeros n k

-- counters as they are made
pub cleared_made : (n : ℕ) → n ≡ 4096 → Cleared (replicate n 0)
cleared_made n e = record { size = length-replicate n 0 ∙ e; zero = get_d_zeros n }

pub tallied_none : {counters : List ℕ} (key : ℕ → ℕ) → Cleared counters → Tallied counters 0 key
tallied_none key z = record { size = z.size; counts = λ k. z.zero k ∙ sym (count_none _) }

-- one run more
pub tallied_more : {counters : List ℕ} {n : ℕ} {key : ℕ → ℕ} → Tallied counters n key → key n < 4096
    → Tallied (set counters (key n) (get_or counters (key n) 0 + 1)) (n + 1) key
tallied_more {counters} {n} {key} t h =
    record {
      size = length-set counters (key n) _ ∙ t.size;
      counts = λ k. rw (add-one n, count_suc)
          (by_cases (ℕ_discrete (key n) k)
          (λ (p : key n ≡ k). rw (eq-eqb (key n) k p, ← p, get_or-set_same counters (key n) _ 0 (rw t.size h), t.counts (key n)))
          (λ (p : key n ≡ k → ⊥). rw
          (ne_eqb (key n) k p, get_or-set_other counters (key n) k _ 0 (λ q. p (sym q)), add-zero)
          (t.counts k)));
    }

-- no counter passes the runs, so one more fits
pub counter_fits : {counters : List ℕ} {n : ℕ} {key : ℕ → ℕ} → Tallied counters n key → n ≤ 512 → (k : ℕ)
    → Fits w16 (get_or counters k 0 + 1)
counter_fits {n = n} {key = key} t few k = rw (t.counts k) (omega (arith, count_le n (λ r. eqb (key r) k)))

-- a counter set back to zero
pub reset : (counters : List ℕ) (i : ℕ) → get_or (set counters i 0) i 0 ≡ 0
reset [] i = refl
reset (x ∷ xs) zero = refl
reset (x ∷ xs) (suc i) = reset xs i

-- the deviation that the counters show is that of the keys
pub deviation_tallied : {counters : List ℕ} {runs : ℕ} {key : ℕ → ℕ} (n : ℕ) → Tallied counters runs key
    → deviation n runs (λ v. get_or counters v 0) ≡ keys_deviation n runs key
unfolding keys_deviation
deviation_tallied {runs = runs} n t = deviation_ext n runs (λ v h. t.counts v)

-- past the keys every counter is zero
pub past_keys : {counters : List ℕ} {runs : ℕ} {key : ℕ → ℕ} (n : ℕ) → Tallied counters runs key
    → ((r : ℕ) → r < runs → key r < n)
    → (v : ℕ) → n ≤ v → get_or counters v 0 ≡ 0
past_keys {runs = runs} n t below v h =
    t.counts v ∙ count_never runs (λ r l. ne_eqb _ v (λ e. omega (arith, below r l)))

-- the answer says what the search found
pub at_some : (o : Option Counted) (d : Deviation) → Some d ≡ as_deviation o → o ≡ some (record { value = d.value; times = d.times })
at_some none d e = cc
at_some (some x) d e =
    let p : d ≡ record { value = x.value; times = x.times } = cc in
    ap (λ (found : Deviation). some (record { value = found.value; times = found.times })) (sym p)

pub nowhere_none : (o : Option Counted) → None ≡ as_deviation o → o ≡ none
nowhere_none none e = refl
nowhere_none (some x) e = cc

-- and so does the test whether there is one
pub some_found : (o : Option Counted) {r : Prelude.Option Deviation} → r ≡ as_deviation o → is_some r ≡ true → (x : Counted) × (o ≡ some x)
some_found none v e = let never = rw v at e in cc
some_found (some x) v e = (x, refl)

pub none_left : (r : Prelude.Option Deviation) → is_some r ≡ false → r ≡ None
none_left None e = refl
none_left (Some d) e = cc
