-- A search that goes through the pairs in their order finds what `first_pair` says, knows the place of each pair, and ends.
-- Assumes nothing.
use mathlib.Core.Path.{◌≡◌, refl, sym, ◌∙◌, ap}
use mathlib.Core.Logic.{by_cases, ⊎_elim}
use mathlib.Core.Option.{Option, none, some}
use Prim.Native.Nat.{ℕ, ◌+◌, ◌-◌, ◌*◌, ◌/◌, ◌≤◌, ◌<◌}
use native.Mathlib.Decide.{dec_lt}
use native.Mathlib.Nat.{le_trans, lt_trans, eq-or-lt_of_le}
use native.Mathlib.Omega.{arith}
use borrow.Author.Tests.{lt-ltb, le-ltb}
use lib.Arith.{digits_lt}
use Rattle.finite.specs.First.{first_pair}
use Rattle.finite.specs.Pairs.{start_pair, next_pair, ordinal}
use Rattle.finite.specs.declared.pairs.IndexPair.{IndexPair}
use Rattle.finite.proofs.Firsts.{first_at, after_at, after_none, pair_none, between_more}
use Rattle.finite.proofs.Fits.{run_more}
use Rattle.finite.proofs.Ordinals.{few_pairs, ordinal_most, ordinal_past, ordinals}

-- what is left of a search through the pairs of n falls with each pair
abbrev pub left : ℕ → IndexPair → ℕ
left n p = n * n - (p.first * n + p.second)

pub left_falls : (n : ℕ) (p : IndexPair) → p.first < p.second → p.second < n → left n (next_pair n p) < left n p
unfolding next_pair
left_falls n p o h =
    let below = digits_lt (lt_trans o h) h in
    by_cases (dec_lt (p.second + 1) n)
    (λ l. rw (lt-ltb (p.second + 1) n l) (omega (arith, below)))
    (λ l. rw (le-ltb (p.second + 1) n (omega arith), run_more p.first n) (omega (arith, below)))

module _ {A : Type 0} (f : ℕ → ℕ → Option A) (n : ℕ) where
  -- every pair before p has nothing, p has its place in the order, and p is past the last only where no pair is left
  pub record Searched (p : IndexPair) : Type 0 where
    pub ordered : p.first < p.second
    pub placed : p.ordinal ≡ ordinal n p.first p.second
    pub last : n ≤ p.second → p.second ≡ p.first + 1
    pub earlier : (c d : ℕ) → c < p.first → c < d → d < n → f c d ≡ none
    pub nearer : (d : ℕ) → p.first < d → d < p.second → f p.first d ≡ none

  pub searched_start : Searched start_pair
  searched_start =
      record {
        ordered = omega arith;
        placed = sym (ordinals n).starts;
        last = λ h. refl;
        earlier = λ c d h g k. absurd (omega arith);
        nearer = λ d g h. absurd (omega arith);
      }

  -- nothing at p, the last with its first, so nothing with that first
  row_none : (p : IndexPair) → Searched p → f p.first p.second ≡ none → n ≤ p.second + 1 → (d : ℕ) → p.first < d → d < n
      → f p.first d ≡ none
  row_none p s e end d g h =
      ⊎_elim (λ (q : d ≡ p.second). rw q e) (λ (q : d < p.second). s.nearer d g q) (eq-or-lt_of_le (omega arith))

  pub searched_next : (p : IndexPair) → Searched p → p.second < n → f p.first p.second ≡ none → Searched (next_pair n p)
  unfolding next_pair
  searched_next p s h e =
      let up = (ordinals n).goes_up p s.ordered h in
      by_cases (dec_lt (p.second + 1) n)
      (λ l. rw (lt-ltb (p.second + 1) n l)
      (record {
        ordered = omega (arith, s.ordered);
        placed = ap (λ k. k + 1) s.placed ∙ sym (rw (lt-ltb (p.second + 1) n l) at up);
        last = λ g. absurd (omega arith);
        earlier = s.earlier;
        nearer = between_more _ p.first p.second s.nearer e;
      }))
      (λ l. rw (le-ltb (p.second + 1) n (omega arith))
      (record {
        ordered = omega arith;
        placed = ap (λ k. k + 1) s.placed ∙ sym (rw (le-ltb (p.second + 1) n (omega arith)) at up);
        last = λ g. omega arith;
        earlier = λ c d k g m. ⊎_elim (λ (q : c ≡ p.first). rw q (row_none p s e (omega arith) d (omega arith) m)) (λ (q : c < p.first). s.earlier c d q g m) (eq-or-lt_of_le (omega arith));
        nearer = λ d g k. absurd (omega arith);
      }))

  pub searched_none : (p : IndexPair) → Searched p → n ≤ p.second → first_pair n f ≡ none
  searched_none p s h = pair_none f n (λ c d l k. s.earlier c d (omega (arith, s.last h)) l k)

  pub searched_at : (p : IndexPair) (a : A) → Searched p → p.second < n → f p.first p.second ≡ some a → first_pair n f ≡ some a
  unfolding first_pair
  searched_at p a s h e =
      first_at _ n p.first a (lt_trans s.ordered h)
      (λ c l. after_none c n (f c) (λ d g k. s.earlier c d l g k))
      (after_at p.first n (f p.first) p.second a s.ordered h s.nearer e)

  -- of 128 numbers no pair has a place past 8,128
  pub searched_few : (p : IndexPair) → Searched p → p.second < n → n ≤ 128 → p.ordinal ≤ 8128
  searched_few p s h few = rw s.placed (le_trans (ordinal_most n p.first p.second s.ordered h) (few_pairs few))

  -- past the last pair all are counted
  pub searched_all : (p : IndexPair) → Searched p → n ≤ p.second → p.ordinal ≡ n * (n - 1) / 2 + 1
  searched_all p s h = s.placed ∙ ordinal_past n p.first p.second h (s.last h)
