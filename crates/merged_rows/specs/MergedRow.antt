-- A row of the sheet that MERGE leaves, on bytes: what the functions that put it take and leave (document 01, "Steps by kind", step 4).
use Rattle.std.specs.Prelude.{◌≡◌, cond, ℕ, ◌≤◌, ◌<◌, eqb, length, get_or}
use mathlib.Core.List.{List, [], ◌∷◌, flat_map}
use Rattle.finite.specs.Lists.{from}

-- A stretch of columns that stay, in a row of n columns: it starts at a column, and it stops at a member or at the end of the row.
pub record Stretch (roles : List ℕ) (n column stop : ℕ) : Type 0 where
  pub forward : column ≤ stop
  pub within : stop ≤ n
  pub stay : (q : ℕ) → column ≤ q → q < stop → get_or roles q 0 ≡ 0
  pub at_member : stop < n → get_or roles stop 0 ≡ 0 → ⊥

-- where the stretch that starts at each column stops, and that at the end of the row, which is empty
pub record HasStops (roles : List ℕ) (n : ℕ) (stops : List ℕ) : Type 0 where
  pub enough : n < length stops
  pub given : (column : ℕ) → column ≤ n → Stretch roles n column (get_or stops column 0)

-- what stands in the place of a member, by its role
unfoldable pub member_place : ℕ → ℕ → List ℕ
member_place role merged = cond (eqb role 1) (merged ∷ []) []

-- what stands in the place of a column with an entry of its own, by its role
unfoldable pub place_by : ℕ → ℕ → ℕ → List ℕ
place_by role merged own = cond (eqb role 0) (own ∷ []) (member_place role merged)

-- a row of the next sheet, of a row that has an entry for each column: the levels of a run, or the level counts
unfoldable pub merged_row : List ℕ → ℕ → List ℕ → List ℕ
merged_row roles merged row = flat_map (λ q. place_by (get_or roles q 0) merged (get_or row q 0)) (from 0 (length row))
