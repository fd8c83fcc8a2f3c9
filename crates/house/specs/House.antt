-- The four house tables of document 01, from 002 Table 4, with 01's runs in 01's order.
use Rattle.std.specs.Prelude.{cond, ◌&&◌, List, [], ◌∷◌, ℕ, ◌≤◌, eqb, leb, length, get_or}
use Rattle.std.proofs.Math.Option.{Option, none, some}
use Rattle.counting.specs.Table.{Table}

-- a table of which the runs are written out
abbrev pub written_table : List ℕ → List (List ℕ) → Table
written_table levels runs = record { runs = length runs; levels = levels; cell = λ r c. get_or (get_or runs r []) c 0 }

-- L4(2³)
unfoldable pub house101 : Table
house101 =
    written_table (2 ∷ 2 ∷ 2 ∷ [])
    ((0 ∷ 0 ∷ 0 ∷ [])
    ∷ (0 ∷ 1 ∷ 1 ∷ [])
    ∷ (1 ∷ 0 ∷ 1 ∷ [])
    ∷ (1 ∷ 1 ∷ 0 ∷ [])
    ∷ [])

-- L9(3⁴)
unfoldable pub house102 : Table
house102 =
    written_table (3 ∷ 3 ∷ 3 ∷ 3 ∷ [])
    ((0 ∷ 0 ∷ 0 ∷ 0 ∷ [])
    ∷ (0 ∷ 1 ∷ 1 ∷ 1 ∷ [])
    ∷ (0 ∷ 2 ∷ 2 ∷ 2 ∷ [])
    ∷ (1 ∷ 0 ∷ 1 ∷ 2 ∷ [])
    ∷ (1 ∷ 1 ∷ 2 ∷ 0 ∷ [])
    ∷ (1 ∷ 2 ∷ 0 ∷ 1 ∷ [])
    ∷ (2 ∷ 0 ∷ 2 ∷ 1 ∷ [])
    ∷ (2 ∷ 1 ∷ 0 ∷ 2 ∷ [])
    ∷ (2 ∷ 2 ∷ 1 ∷ 0 ∷ [])
    ∷ [])

-- L12(3·2⁴)
unfoldable pub house103 : Table
house103 =
    written_table (3 ∷ 2 ∷ 2 ∷ 2 ∷ 2 ∷ [])
    ((0 ∷ 0 ∷ 0 ∷ 0 ∷ 0 ∷ [])
    ∷ (0 ∷ 1 ∷ 1 ∷ 1 ∷ 0 ∷ [])
    ∷ (0 ∷ 0 ∷ 1 ∷ 0 ∷ 1 ∷ [])
    ∷ (0 ∷ 1 ∷ 0 ∷ 1 ∷ 1 ∷ [])
    ∷ (1 ∷ 0 ∷ 0 ∷ 0 ∷ 1 ∷ [])
    ∷ (1 ∷ 1 ∷ 1 ∷ 0 ∷ 0 ∷ [])
    ∷ (1 ∷ 0 ∷ 1 ∷ 1 ∷ 0 ∷ [])
    ∷ (1 ∷ 1 ∷ 0 ∷ 1 ∷ 1 ∷ [])
    ∷ (2 ∷ 0 ∷ 0 ∷ 1 ∷ 0 ∷ [])
    ∷ (2 ∷ 1 ∷ 1 ∷ 0 ∷ 1 ∷ [])
    ∷ (2 ∷ 0 ∷ 1 ∷ 1 ∷ 1 ∷ [])
    ∷ (2 ∷ 1 ∷ 0 ∷ 0 ∷ 0 ∷ [])
    ∷ [])

-- L12(6·2²)
unfoldable pub house104 : Table
house104 =
    written_table (6 ∷ 2 ∷ 2 ∷ [])
    ((0 ∷ 0 ∷ 0 ∷ [])
    ∷ (0 ∷ 1 ∷ 1 ∷ [])
    ∷ (1 ∷ 0 ∷ 1 ∷ [])
    ∷ (1 ∷ 1 ∷ 0 ∷ [])
    ∷ (2 ∷ 0 ∷ 0 ∷ [])
    ∷ (2 ∷ 1 ∷ 1 ∷ [])
    ∷ (3 ∷ 0 ∷ 1 ∷ [])
    ∷ (3 ∷ 1 ∷ 0 ∷ [])
    ∷ (4 ∷ 0 ∷ 0 ∷ [])
    ∷ (4 ∷ 1 ∷ 1 ∷ [])
    ∷ (5 ∷ 0 ∷ 1 ∷ [])
    ∷ (5 ∷ 1 ∷ 0 ∷ [])
    ∷ [])

-- the numbers of the house tables
pub record HouseNumber (n : ℕ) : Type 0 where
  pub low : 101 ≤ n
  pub high : n ≤ 104

-- the table of such a number
unfoldable pub house_of : ℕ → Table
house_of n = cond (eqb n 101) house101 (cond (eqb n 102) house102 (cond (eqb n 103) house103 house104))

-- there is no other
unfoldable pub house_table : ℕ → Option Table
house_table n = cond (leb 101 n && leb n 104) (some (house_of n)) none
