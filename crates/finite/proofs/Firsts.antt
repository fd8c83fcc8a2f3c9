-- What `first` finds: nothing where there is nothing, and otherwise what stands at the least number with something.
-- Assumes nothing.
use mathlib.Core.Path.{◌≡◌, refl, sym, ◌∙◌, subst, ap₂}
use mathlib.Core.Logic.{◌⊎◌, inl, inr, ⊎_elim, by_cases}
use mathlib.Core.Bool.{Bool, true, false, cond}
use mathlib.Core.Option.{Option, none, some, none-ne-some, some-injective}
use Prim.Native.Nat.{ℕ, zero, suc, ◌+◌, ◌<◌}
use native.Mathlib.Nat.{le_step, lt_trans, lt-suc_self, le_of_suc-le-suc, eq-or-lt_of_le, not-suc-le-zero}
use native.Mathlib.Decide.{dec_lt}
use native.Mathlib.Omega.{arith}
use borrow.Author.Count.{below_more}
use borrow.Author.Tests.{lt-ltb, le-ltb, ltb-true}
use Rattle.finite.specs.First.{first, first_after, first_pair, ◌or_else◌}

module _ {A : Type 0} (f : ℕ → Option A) where
  pub first_none : (n : ℕ) → ((i : ℕ) → i < n → f i ≡ none) → first n f ≡ none
  unfolding first
  first_none zero e = refl
  first_none (suc n) e = rw (first_none n (λ i h. e i (le_step h))) (e n (lt-suc_self n))

  -- what stands at k, where there is nothing before k
  pub first_at : (n k : ℕ) (a : A) → k < n → ((i : ℕ) → i < k → f i ≡ none) → f k ≡ some a → first n f ≡ some a
  unfolding first
  first_at zero k a h e s = absurd (not-suc-le-zero h)
  first_at (suc n) k a h e s =
      ⊎_elim
      (λ (p : k ≡ n). rw (first_none n (λ i l. e i (rw p l))) (rw (← p) s))
      (λ (l : k < n). rw (first_at n k a l e s))
      (eq-or-lt_of_le (le_of_suc-le-suc h))

  -- k is the least number at which something stands, and that is a
  pub record Least (n : ℕ) (a : A) : Type 0 where
    pub place : ℕ
    pub below : place < n
    pub there : f place ≡ some a
    pub before : (i : ℕ) → i < place → f i ≡ none

  at_end : (n : ℕ) → ((i : ℕ) → i < n → f i ≡ none) → (o : Option A) → f n ≡ o
      → ((i : ℕ) → i < suc n → f i ≡ none) ⊎ ((a : A) × Least (suc n) a)
  at_end n e none p = inl (λ i h. ⊎_elim (λ (d : i ≡ n). rw d p) (e i) (eq-or-lt_of_le (le_of_suc-le-suc h)))
  at_end n e (some a) p = inr (a, record { place = n; below = lt-suc_self n; there = p; before = e })

  -- either nothing stands below n, or there is a least number at which something does
  pub search_below : (n : ℕ) → ((i : ℕ) → i < n → f i ≡ none) ⊎ ((a : A) × Least n a)
  search_below zero = inl (λ i h. absurd (not-suc-le-zero h))
  search_below (suc n) =
      ⊎_elim
      (λ e. at_end n e (f n) refl)
      (λ l. inr (l.0, record { place = l.1.place; below = le_step l.1.below; there = l.1.there; before = l.1.before }))
      (search_below n)

  pub first_least : (n : ℕ) (a : A) → Least n a → first n f ≡ some a
  first_least n a l = first_at n l.place a l.below l.before l.there

  -- nothing found, so nothing is there
  pub none_below : (n : ℕ) → first n f ≡ none → (i : ℕ) → i < n → f i ≡ none
  none_below n e = ⊎_elim (λ z. z) (λ l. absurd (none-ne-some l.0 (sym e ∙ first_least n l.0 l.1))) (search_below n)

  -- something found, so there is a least number at which it stands
  pub found_least : (n : ℕ) (a : A) → first n f ≡ some a → Least n a
  found_least n a e =
      ⊎_elim
      (λ z. absurd (none-ne-some a (sym (first_none n z) ∙ e)))
      (λ l. subst (Least n) (some-injective l.0 a (sym (first_least n l.0 l.1) ∙ e)) l.1)
      (search_below n)

-- what agrees below n finds the same
pub first_ext : {A : Type 0} (n : ℕ) {f g : ℕ → Option A} → ((i : ℕ) → i < n → f i ≡ g i) → first n f ≡ first n g
unfolding first
first_ext zero e = refl
first_ext (suc n) e = ap₂ ◌or_else◌ (first_ext n (λ i h. e i (le_step h))) (e n (lt-suc_self n))

-- what holds between c and k, and at k, holds between c and k + 1
pub between_more : (P : ℕ → Type 0) (c k : ℕ) → ((d : ℕ) → c < d → d < k → P d) → P k → (d : ℕ) → c < d → d < k + 1 → P d
between_more P c k between there d l h = below_more (λ d. c < d → P d) k (λ d g m. between d m g) (λ m. there) d h l

module _ {A : Type 0} (c n : ℕ) (f : ℕ → Option A) where
  pub after_none : ((d : ℕ) → c < d → d < n → f d ≡ none) → first_after c n f ≡ none
  unfolding first_after
  after_none e = first_none _ n (λ d h. by_cases (dec_lt c d) (λ l. rw (lt-ltb c d l) (e d l h)) (λ l. rw (le-ltb c d (omega arith))))

  -- what stands at k, where there is nothing between c and k
  pub after_at : (k : ℕ) (a : A) → c < k → k < n → ((d : ℕ) → c < d → d < k → f d ≡ none) → f k ≡ some a → first_after c n f ≡ some a
  unfolding first_after
  after_at k a l h e s =
      first_at _ n k a h (λ d g. by_cases (dec_lt c d) (λ m. rw (lt-ltb c d m) (e d m g)) (λ m. rw (le-ltb c d (omega arith)))) (rw (lt-ltb c k l) s)

  pub none_after : first_after c n f ≡ none → (d : ℕ) → c < d → d < n → f d ≡ none
  unfolding first_after
  none_after e d l h = rw (lt-ltb c d l) at (none_below _ n e d h)

-- what is found under a test, found where the test passes
pub cond_then : {A : Type 0} (b : Bool) (x : Option A) (a : A) → cond b x none ≡ some a → (b ≡ true) × (x ≡ some a)
cond_then true x a e = (refl, e)
cond_then false x a e = absurd (none-ne-some a e)

module _ {A : Type 0} (f : ℕ → ℕ → Option A) (n : ℕ) where
  pub pair_none : ((c d : ℕ) → c < d → d < n → f c d ≡ none) → first_pair n f ≡ none
  unfolding first_pair
  pair_none e = first_none _ n (λ c h. after_none c n (f c) (e c))

  pub none_pair : first_pair n f ≡ none → (c d : ℕ) → c < d → d < n → f c d ≡ none
  unfolding first_pair
  none_pair e c d l h = none_after c n (f c) (none_below _ n e c (lt_trans l h)) d l h

  -- the first pair at which something stands, and nothing before it
  pub record LeastPair (a : A) : Type 0 where
    pub one : ℕ
    pub other : ℕ
    pub ordered : one < other
    pub below : other < n
    pub there : f one other ≡ some a
    pub earlier : (c d : ℕ) → c < one → c < d → d < n → f c d ≡ none
    pub nearer : (d : ℕ) → one < d → d < other → f one d ≡ none

  pub found_pair : (a : A) → first_pair n f ≡ some a → LeastPair a
  unfolding first_pair first_after
  found_pair a e =
      let l = found_least _ n a e in
      let m = found_least _ n a l.there in
      let t = cond_then _ _ a m.there in
      record {
        one = l.place;
        other = m.place;
        ordered = ltb-true l.place m.place t.0;
        below = m.below;
        there = t.1;
        earlier = λ c d h k g. none_after c n (f c) (l.before c h) d k g;
        nearer = λ d k h. rw (lt-ltb l.place d k) at (m.before d h);
      }
