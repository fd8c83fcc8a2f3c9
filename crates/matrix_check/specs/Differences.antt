-- The differences that the check of a matrix looks up.
use Rattle.std.specs.Prelude.{List, ℕ, ◌/◌, ◌%◌}
use Rattle.finite.specs.Tabulated.{Tabulated}
use Rattle.galois.specs.Levels.{level_difference}

-- the first n of the differences of two entries, that of x and y at x × p + y
abbrev pub DifferencesOf : ℕ → ℕ → List ℕ → Type 0
DifferencesOf p n differences = Tabulated (λ q. level_difference p (q / p) (q % p)) n differences
