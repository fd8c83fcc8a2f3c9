-- Marks at codes, one more at a time, and what they tell of the codes of one factor after the other.
-- Assumes nothing.
use mathlib.Core.Path.{◌≡◌, sym, ◌∙◌}
use mathlib.Core.Logic.{by_cases}
use mathlib.Core.Bool.{Bool, true, false, true≢false}
use mathlib.Core.List.{List}
use Prim.Native.Nat.{ℕ, ◌+◌, ◌<◌}
use native.Mathlib.Decide.{ℕ_discrete}
use native.Mathlib.Omega.{arith}
use borrow.Author.Count.{below_more}
use lib.ListN.{length, get_or, set}
use lib.Seq.{get_or-set_same, get_or-set_other}
use Rattle.finite.proofs.Firsts.{between_more}
use Rattle.combining.specs.Marks.{Marked, NewCodes}
use Rattle.combining.proofs.Distinct.{DistinctCodes}

-- ---- one mark

marked_here : (seen : List Bool) (k : ℕ) → k < length seen → Marked (set seen k true) k
unfolding Marked
marked_here seen k h = get_or-set_same seen k true false h

marked_still : (seen : List Bool) (k j : ℕ) → k < length seen → Marked seen j → Marked (set seen k true) j
unfolding Marked
marked_still seen k j h m =
    by_cases (ℕ_discrete k j)
    (λ (e : k ≡ j). rw (← e) (marked_here seen k h))
    (λ n. get_or-set_other seen k j true false (λ e. n (sym e)) ∙ m)

-- ---- the codes of the numbers so far

pub new_none : (seen : List Bool) (code : ℕ → ℕ) → NewCodes seen seen 1 code
new_none seen code = record { kept = λ k m. m; new = λ v p h. absurd (omega arith); marked = λ v p h. absurd (omega arith) }

pub new_more : {before after : List Bool} {n k : ℕ} {code : ℕ → ℕ} → NewCodes before after n code → k ≡ code n → k < length after
    → get_or after k false ≡ false → NewCodes before (set after k true) (n + 1) code
unfolding Marked
new_more {after = after} {n = n} {k = k} {code = code} c same h e =
    record {
      kept = λ j m. marked_still after k j h (c.kept j m);
      new = between_more _ 0 n c.new (λ m. true≢false (sym (c.kept k (rw same m)) ∙ e));
      marked = between_more _ 0 n (λ v p l. marked_still after k (code v) h (c.marked v p l)) (rw (← same) (marked_here after k h));
    }

-- ---- the codes of the factors so far

-- zero and all codes of n factors have marks, and they are different
pub record Seen (seen : List Bool) (n : ℕ) (size : ℕ → ℕ) (code : ℕ → ℕ → ℕ) : Type 0 where
  pub zero_marked : Marked seen 0
  pub marked : (i v : ℕ) → i < n → 0 < v → v < size i → Marked seen (code i v)
  pub distinct : DistinctCodes n size code

pub seen_none : {seen : List Bool} {size : ℕ → ℕ} {code : ℕ → ℕ → ℕ} → Marked seen 0 → Seen seen 0 size code
seen_none m =
    record {
      zero_marked = m;
      marked = λ i v h. absurd (omega arith);
      distinct = record { nonzero = λ i v h. absurd (omega arith); different = λ i j v w g h. absurd (omega arith) };
    }

pub seen_more : {before after : List Bool} {n : ℕ} {size : ℕ → ℕ} {code : ℕ → ℕ → ℕ} → Seen before n size code
    → NewCodes before after (size n) (code n) → Seen after (n + 1) size code
seen_more {before} {after} {n} {size} {code} s c =
    record {
      zero_marked = c.kept 0 s.zero_marked;
      marked = λ i v h p l. below_more (λ j. (w : ℕ) → 0 < w → w < size j → Marked after (code j w)) n (λ j k w q m. c.kept _ (s.marked j w k q m)) c.marked i h v p l;
      distinct =
          record {
            nonzero = λ i v h. below_more (λ j. (w : ℕ) → 0 < w → w < size j → code j w ≡ 0 → ⊥) n
                (λ j k w. s.distinct.nonzero j w k)
                (λ w p l e. c.new w p l (rw e s.zero_marked)) i h v;
            different = λ i j v w g h. below_more (λ k. i < k → 0 < v → v < size i → 0 < w → w < size k → code i v ≡ code k w → ⊥) n
                (λ k l g. s.distinct.different i k v w g l)
                (λ g p q r t e. c.new w r t (rw (← e) (s.marked i v g p q))) j h g;
          };
    }
