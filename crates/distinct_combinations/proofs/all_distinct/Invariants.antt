-- `all_distinct` meets its contract: zero and the codes of the factors so far are marked, and they are different.
-- Assumes nothing.
use mathlib.Core.Path.{◌≡◌}
use Prim.Native.Nat.{◌*◌, ◌^◌, ◌≤◌}
use lib.ListN.{length, get_or}
use Rattle.finite.specs.Sum.{sum}
use Rattle.combining.specs.Combining.{factor_block, combination_code}
use Rattle.combining.proofs.Marks.{Seen}
use Rattle.distinct_combinations.proofs.all_distinct.Given as goal

abbrev pub invariant-loop-width : goal.invariant-loop-width
invariant-loop-width l =
    (l.start ≤ 255 * l.width-index)
    × (l.start ≡ sum l.width-index (λ k. get_or l.widths k 0))
    × (length l.seen ≡ 512)
    × Seen l.seen l.width-index (λ i. l.s ^ get_or l.widths i 0) (λ i. combination_code l.entries l.t l.row l.s (factor_block l.widths i))
