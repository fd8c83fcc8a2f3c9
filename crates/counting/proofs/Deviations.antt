-- What a deviation from an even count says: none where every value stands in its share of the runs, else the lowest that does not; and which value is farthest off.
-- Assumes nothing.
use mathlib.Core.Path.{◌≡◌, refl, sym, ap, subst}
use mathlib.Core.Bool.{Bool, true, false, cond}
use mathlib.Core.Logic.{◌≢◌}
use mathlib.Core.Option.{Option, none, some, none-ne-some, some-injective}
use Prim.Native.Nat.{ℕ, ◌*◌, ◌≤◌, ◌<◌, zero-le}
use native.Mathlib.Nat.{lt_of_le_of_lt}
use native.Mathlib.Omega.{arith}
use borrow.Author.Tests.{eq-eqb, ne_eqb, eqb-true, eqb-false}
use lib.IntN.{nat_abs}
use Rattle.std.specs.Prelude.{Ok, Err}
use Rattle.integers.proofs.Differences.{difference_size}
use Rattle.finite.proofs.Greatest.{Greatest, greatest_is}
use Rattle.finite.proofs.Firsts.{first_ext, first_none, first_at, none_below, found_least}
use Rattle.counting.specs.Verdict.{Counted, deviation, gap, farthest, table_finding}
use Rattle.counting.specs.declared.verdict.TableFault.{TableFault}

-- nothing where the test passes, and what stands there where it does not
cond_none : {A : Type 0} (b : Bool) (a : A) → cond b none (some a) ≡ none → b ≡ true
cond_none true a e = refl
cond_none false a e = absurd (none-ne-some a (sym e))

cond_some : {A : Type 0} (b : Bool) (x a : A) → cond b none (some x) ≡ some a → (b ≡ false) × (x ≡ a)
cond_some true x a e = absurd (none-ne-some a e)
cond_some false x a e = (refl, some-injective x a e)

module _ (n N : ℕ) (times_of : ℕ → ℕ) where
  pub deviation_none : ((v : ℕ) → v < n → n * times_of v ≡ N) → deviation n N times_of ≡ none
  unfolding deviation
  deviation_none even = first_none _ n (λ v h. rw (eq-eqb (n * times_of v) N (even v h)))

  pub deviation_at : (k : ℕ) → k < n → ((v : ℕ) → v < k → n * times_of v ≡ N) → (n * times_of k ≡ N → ⊥)
      → deviation n N times_of ≡ some (record { value = k; times = times_of k })
  unfolding deviation
  deviation_at k h even odd =
      first_at _ n k _ h (λ v l. rw (eq-eqb (n * times_of v) N (even v l))) (rw (ne_eqb (n * times_of k) N odd))

  pub none_even : deviation n N times_of ≡ none → (v : ℕ) → v < n → n * times_of v ≡ N
  unfolding deviation
  none_even e v h = eqb-true (n * times_of v) N (cond_none _ _ (none_below _ n e v h))

  -- the value named is uneven, its times are its count, and every lower value is even
  pub record Lowest (x : Counted) : Type 0 where
    pub below : x.value < n
    pub counted : x.times ≡ times_of x.value
    pub uneven : n * times_of x.value ≢ N
    pub before : (v : ℕ) → v < x.value → n * times_of v ≡ N

  pub some_lowest : (x : Counted) → deviation n N times_of ≡ some x → Lowest x
  unfolding deviation
  some_lowest x e =
      let l = found_least _ n x e in
      let p = cond_some _ _ x l.there in
      subst Lowest p.1
      (record {
        below = l.below;
        counted = refl;
        uneven = eqb-false _ _ p.0;
        before = λ v h. eqb-true _ _ (cond_none _ _ (l.before v h));
      })

  -- the size of a value's gap
  abbrev size : ℕ → ℕ
  size v = nat_abs (gap n N (times_of v))

  -- no value is farther off than w, each before it is less far off, and w is uneven
  pub record Farthest (w : ℕ) : Type 0 where
    pub below : w < n
    pub uneven : n * times_of w ≢ N
    pub none_farther : (v : ℕ) → v < n → size v ≤ size w
    pub before : (v : ℕ) → v < w → size v < size w

  -- where a value is uneven, so is the one that is farthest off
  pub some_farthest : (x : Counted) → deviation n N times_of ≡ some x → Farthest (farthest n N times_of)
  unfolding farthest
  some_farthest x e =
      let l = some_lowest x e in
      let w = farthest n N times_of in
      let g : Greatest size n w = greatest_is size n (lt_of_le_of_lt zero-le l.below) in
      record {
        below = g.below;
        uneven = λ even. l.uneven
            (omega (arith, g.most x.value l.below, difference_size (n * times_of x.value) N, difference_size (n * times_of w) N));
        none_farther = g.most;
        before = g.before;
      }

pub deviation_ext : (n N : ℕ) {f g : ℕ → ℕ} → ((v : ℕ) → v < n → f v ≡ g v) → deviation n N f ≡ deviation n N g
unfolding deviation
deviation_ext n N e = first_ext n (λ v h. rw (e v h))

pub fails_some : (o : Option TableFault) (f : TableFault) → Err f ≡ table_finding o → o ≡ some f
fails_some none f e = cc
fails_some (some g) f e = let p : f ≡ g = cc in ap some (sym p)

pub passes_none : (o : Option TableFault) → Ok tt ≡ table_finding o → o ≡ none
passes_none none e = refl
passes_none (some g) e = cc
