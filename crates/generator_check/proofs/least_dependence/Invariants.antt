-- `least_dependence` meets its contract: no coefficient list so far combines the columns to zero.
-- Assumes nothing.
use mathlib.Core.Path.{◌≡◌}
use mathlib.Core.Bool.{false}
use Prim.Native.Nat.{ℕ, ◌^◌, ◌<◌}
use lib.ListN.{length}
use Rattle.galois.specs.Arithmetic.{field_sum, field_product}
use Rattle.counting.specs.GeneratorVerdict.{combines_to_zero}
use Rattle.combining.specs.Combining.{grid_of, block_columns}
use Rattle.generator_check.proofs.least_dependence.Given as goal

abbrev pub invariant-loop-coefficients : goal.invariant-loop-coefficients
invariant-loop-coefficients l =
    (l.end ≡ l.s ^ length (block_columns l.one l.other))
    × ((w : ℕ) → 0 < w → w < l.coefficients
    → combines_to_zero (field_sum l.s) (field_product l.s) (grid_of l.entries l.t l.row l.s) (block_columns l.one l.other) w ≡ false)
