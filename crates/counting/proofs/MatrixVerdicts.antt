-- The verdict on a matrix passes exactly when it is a difference matrix; otherwise it names the first failure.
-- Assumes nothing.
use mathlib.Core.Path.{◌≡◌, refl, ap, subst}
use mathlib.Core.Logic.{◌↔◌}
use mathlib.Core.Option.{Option, none, some, map, map-eq-none_iff, map-eq-some_iff}
use Prim.Native.Nat.{ℕ, ◌+◌, ◌<◌}
use Rattle.std.specs.Prelude.{Ok, Err}
use Rattle.finite.proofs.Firsts.{pair_none, none_pair, found_pair}
use Rattle.counting.specs.Matrix.{Matrix, DifferenceMatrix}
use Rattle.counting.specs.Verdict.{Counted, difference_deviation, difference_fault, matrix_finding, matrix_verdict}
use Rattle.counting.specs.Failures.{EvenDifference, EvenDifferences, FirstDifference}
use Rattle.counting.specs.declared.verdict.DifferenceFault.{DifferenceFault}
use Rattle.counting.proofs.Deviations.{deviation_none, none_even, some_lowest}

-- ---- nothing is found exactly where every count is even
differences_even : (D : Matrix) (c d : ℕ) → difference_fault D c d ≡ none → EvenDifferences D c d
unfolding EvenDifference difference_deviation
differences_even D c d e v h = none_even _ _ _ ((map-eq-none_iff _ _).0 e) v h

even_differences : (D : Matrix) (c d : ℕ) → EvenDifferences D c d → difference_fault D c d ≡ none
unfolding EvenDifference difference_deviation
even_differences D c d e = ap (map _) (deviation_none _ _ _ e)

-- ---- what is found is the first failure
lowest_difference : (D : Matrix) (c d : ℕ) (x : Counted) → c < d → d < D.columns
    → ((a b : ℕ) → a < c → a < b → b < D.columns → EvenDifferences D a b)
    → ((b : ℕ) → c < b → b < d → EvenDifferences D c b)
    → difference_deviation D c d ≡ some x
    → FirstDifference D (record { first = c + 1; second = d + 1; difference = x.value; times = x.times })
unfolding difference_deviation EvenDifference
lowest_difference D c d x h hd firsts seconds e =
    let l = some_lowest _ _ _ x e in
    record {
      one = c;
      other = d;
      first_named = refl;
      second_named = refl;
      ordered = h;
      second_in = hd;
      difference_in = l.below;
      counted = l.counted;
      uneven = l.uneven;
      firsts_before = firsts;
      seconds_before = seconds;
      differences_before = l.before;
    }

-- ---- the verdict
passes_none : (o : Option DifferenceFault) → matrix_finding o ≡ Ok tt → o ≡ none
passes_none none e = refl
passes_none (some f) e = cc

fails_some : (o : Option DifferenceFault) (f : DifferenceFault) → matrix_finding o ≡ Err f → o ≡ some f
fails_some none f e = cc
fails_some (some g) f e = let p : g ≡ f = cc in ap some p

-- A matrix passes exactly when it is a difference matrix.
pub matrix_passes : (D : Matrix) → (matrix_verdict D ≡ Ok tt) ↔ DifferenceMatrix D
unfolding matrix_verdict DifferenceMatrix EvenDifference
matrix_passes D = (
  λ e c d v h hd hv. differences_even D c d (none_pair _ _ (passes_none _ e) c d h hd) v hv,
  λ e. ap matrix_finding (pair_none _ _ (λ c d h hd. even_differences D c d (λ v hv. e c d v h hd hv))),
)

-- What a matrix's verdict names fails, and nothing before it does.
pub matrix_fails : (D : Matrix) (fault : DifferenceFault) → matrix_verdict D ≡ Err fault → FirstDifference D fault
unfolding matrix_verdict
matrix_fails D fault e =
    let l = found_pair _ _ fault (fails_some _ fault e) in
    let m = (map-eq-some_iff _ _).0 l.there in
    subst (FirstDifference D) m.2
    (lowest_difference D l.one l.other m.0 l.ordered l.below
    (λ a b h g k. differences_even D a b (l.earlier a b h g k))
    (λ b g h. differences_even D l.one b (l.nearer b g h))
    m.1)
