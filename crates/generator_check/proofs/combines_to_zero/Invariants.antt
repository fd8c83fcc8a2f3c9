-- `combines_to_zero` meets its contract: every row so far is combined to zero.
-- Assumes nothing.
use mathlib.Core.Path.{◌≡◌}
use Prim.Native.Nat.{ℕ, ◌*◌, ◌<◌}
use Rattle.combining.specs.Combining.{row_combination}
use Rattle.generator_check.proofs.combines_to_zero.Given as goal

abbrev pub invariant-loop-i : goal.invariant-loop-i
invariant-loop-i l = (k : ℕ) → k < l.i → row_combination l.entries (k * l.row) l.s l.one l.other l.coefficients ≡ 0
