-- What is counted of records: each case of the definitions of specs/Counts.antt.
-- Assumes nothing.
use mathlib.Core.Path.{◌≡◌, ap}
use mathlib.Core.Bool.{Bool, true, false}
use mathlib.Core.List.{List}
use Prim.Native.Nat.{ℕ, ◌+◌, ◌≤◌, ◌<◌, min}
use native.Mathlib.Omega.{arith}
use borrow.Author.Tests.{ltb-true, ltb-false}
use lib.Dec.{ltb}
use lib.ListN.{get_or, set}
use Rattle.lines.proofs.Cases.{by_cases}
use Rattle.record_counts.specs.Counts.{one_more, record_counted, answer_counted}
use Rattle.record_counts.specs.declared.Tally.{Tally}

-- One more, as `saturating_add` counts.
pub one_more_min : (n : ℕ) → n < 18446744073709551616 → one_more n ≡ min (n + 1) 18446744073709551615
unfolding one_more
one_more_min n h =
    by_cases (ltb n 18446744073709551615) (λ t. rw t (omega (arith, ltb-true n 18446744073709551615 t)))
    (λ t. rw t (omega (arith, ltb-false n 18446744073709551615 t)))

-- A count at its place.
pub counted_there : (answers : List ℕ) (number : ℕ) {next : ℕ} → next ≡ one_more (get_or answers number 0) → set answers number next ≡ answer_counted number answers
unfolding answer_counted
counted_there answers number e = ap (set answers number) e

-- No more records differ than there are.
more_kept : (n m : ℕ) → n ≤ m → n ≤ one_more m
unfolding one_more
more_kept n m h = by_cases (ltb m 18446744073709551615) (λ t. rw t (omega arith)) (λ t. rw t h)

more_both : (n m : ℕ) → n ≤ m → one_more n ≤ one_more m
unfolding one_more
more_both n m h =
    by_cases (ltb n 18446744073709551615)
    (λ t.
    rw t
    (by_cases (ltb m 18446744073709551615) (λ u. rw u (omega arith))
    (λ u. rw u (omega (arith, ltb-true n 18446744073709551615 t, ltb-false m 18446744073709551615 u)))))
    (λ t. rw t (more_kept n m h))

pub few_counted : (holds : Bool) (tally : Tally) → tally.differing ≤ tally.records
    → (record_counted holds tally).differing ≤ (record_counted holds tally).records
unfolding record_counted
few_counted true tally h = more_kept tally.differing tally.records h
few_counted false tally h = more_both tally.differing tally.records h
