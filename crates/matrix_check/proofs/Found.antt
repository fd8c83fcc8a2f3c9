-- What a count of two columns finds is what the definition finds of them.
-- Assumes nothing.
use mathlib.Core.Path.{◌≡◌, ap}
use mathlib.Core.Option.{none, some, map}
use Prim.Native.Nat.{ℕ, ◌+◌}
use Rattle.std.specs.Prelude.{Some, None}
use Rattle.counting.specs.Matrix.{Matrix}
use Rattle.counting.specs.Verdict.{difference_deviation, difference_fault}
use Rattle.tally.specs.Tally.{as_deviation}
use Rattle.tally.specs.declared.Deviation.{Deviation}
use Rattle.tally.proofs.Tallies.{at_some, nowhere_none}

pub difference_at : (D : Matrix) (c d : ℕ) (found : Deviation) → Some found ≡ as_deviation (difference_deviation D c d)
    → difference_fault D c d ≡ some (record { first = c + 1; second = d + 1; difference = found.value; times = found.times })
difference_at D c d found e = ap (map _) (at_some (difference_deviation D c d) found e)

pub difference_nowhere : (D : Matrix) (c d : ℕ) → None ≡ as_deviation (difference_deviation D c d) → difference_fault D c d ≡ none
difference_nowhere D c d e = ap (map _) (nowhere_none (difference_deviation D c d) e)
