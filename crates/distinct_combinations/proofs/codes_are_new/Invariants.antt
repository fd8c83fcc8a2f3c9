-- `codes_are_new` meets its contract: the codes so far had no mark and have one.
-- Assumes nothing.
use mathlib.Core.Path.{◌≡◌}
use Prim.Native.Nat.{◌^◌, ◌≤◌}
use lib.ListN.{length}
use Rattle.combining.specs.Combining.{combination_code}
use Rattle.combining.specs.Marks.{NewCodes}
use Rattle.distinct_combinations.proofs.codes_are_new.Given as goal

abbrev pub invariant-loop-number : goal.invariant-loop-number
invariant-loop-number l =
    (length l.seen ≡ length l.initial.seen)
    × (l.end ≡ l.s ^ l.block.width)
    × (l.end ≤ 64)
    × NewCodes l.initial.seen l.seen l.number (combination_code l.entries l.t l.row l.s l.block)
