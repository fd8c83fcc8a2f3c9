-- `columns_before` meets its contract: the columns so far are the sum over the factors so far.
-- Assumes nothing.
use mathlib.Core.Path.{◌≡◌}
use Prim.Native.Nat.{◌*◌, ◌≤◌}
use lib.ListN.{get_or}
use Rattle.finite.specs.Sum.{sum}
use Rattle.generator_check.proofs.columns_before.Given as goal

abbrev pub invariant-loop-width : goal.invariant-loop-width
invariant-loop-width l =
    (l.columns ≤ 255 * l.width-index) × (l.columns ≡ sum l.width-index (λ k. get_or l.widths k 0))
