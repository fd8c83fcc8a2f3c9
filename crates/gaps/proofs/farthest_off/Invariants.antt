-- `farthest_off` meets its contract: what is in hand is the farthest of the values so far.
use mathlib.Core.Path.{◌≡◌}
use lib.ListN.{get_or}
use Rattle.gaps.proofs.Farthest.{farthest_below}
use Rattle.gaps.proofs.farthest_off.Given as goal

abbrev pub invariant-loop-value : goal.invariant-loop-value
invariant-loop-value l = l.farthest ≡ farthest_below l.n l.runs (λ v. get_or l.counters v 0) l.value
