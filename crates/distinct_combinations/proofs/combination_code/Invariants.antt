-- `combination_code` meets its contract: Horner's rule over the rows so far.
-- Assumes nothing.
use mathlib.Core.Path.{◌≡◌}
use Prim.Native.Nat.{◌*◌, ◌<◌}
use Rattle.finite.specs.Digits.{horner}
use Rattle.combining.specs.Combining.{no_block, row_combination}
use Rattle.distinct_combinations.proofs.combination_code.Given as goal

abbrev pub invariant-loop-i : goal.invariant-loop-i
invariant-loop-i l =
    (l.code < 512)
    × (l.code ≡ horner l.s (λ r. row_combination l.entries (r * l.row) l.s l.block no_block l.coefficients) l.i)
