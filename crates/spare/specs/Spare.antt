-- The spare degrees of a table: document 02, K1. "Planners quote how much a table could still hold: spare = runs − 1 − the sum over columns of
-- (levels − 1)", a signed number. (In the field's terms: the degrees of freedom that the columns leave of the runs'.)
use Rattle.std.specs.Prelude.{List, [], ◌∷◌, ℕ, ℤ, pos, ◌+ℤ◌, ◌-ℤ◌}
use Rattle.counting.specs.Table.{Table}

-- the sum over columns of (levels - 1)
unfoldable pub degrees : List ℕ → ℤ
degrees [] = pos 0
degrees (s ∷ levels) = (pos s -ℤ pos 1) +ℤ degrees levels

-- from the number of runs and the level counts alone
unfoldable pub spare_of : ℕ → List ℕ → ℤ
spare_of runs levels = pos runs -ℤ pos 1 -ℤ degrees levels

-- of a table
abbrev pub spare : Table → ℤ
spare T = spare_of T.runs T.levels
