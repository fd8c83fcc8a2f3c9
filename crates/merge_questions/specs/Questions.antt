-- The members of a MERGE on bytes: what the functions that ask question 6 and question 7 take, and the roles that question 6 gives (document 01,
-- "Steps by kind", step 4).
use Rattle.std.specs.Prelude.{◌≡◌, cond, List, [], ◌∷◌, map, ℕ, ◌+◌, ◌-◌, ◌*◌, ◌≤◌, ◌<◌, eqb, length, get_or}
use Rattle.galois.specs.Arithmetic.{member}
use Rattle.counting.specs.Table.{InRange, table_of}
use Rattle.step_tables.specs.Merge.{MergeFits}

-- the members' columns from 0, which the list names from 1
abbrev pub members_of : List ℕ → List ℕ
members_of numbers = map (λ c. c - 1) numbers

-- p and the numbers of the members as question 2 leaves them
pub record Named (p : ℕ) (numbers : List ℕ) : Type 0 where
  pub least : 2 ≤ p
  pub most : p ≤ 7
  pub many : length numbers ≡ p + 1
  pub from_one : (k : ℕ) → k < length numbers → 1 ≤ get_or numbers k 0

-- the members fit the sheet that lies in the bytes of the table (question 6), and its entries are in range
pub record Fitting (p : ℕ) (numbers table levels : List ℕ) (runs : ℕ) : Type 0 where
  pub named : Named p numbers
  pub fits : MergeFits p (members_of numbers) (table_of table levels runs)
  pub in_range : InRange (table_of table levels runs)
  pub whole : runs * length levels ≤ length table

-- The role of column q: 1 for c1, whose place the merged column takes; 2 for any other member, which goes; 0 for a column that stays.
unfoldable pub role_of : List ℕ → ℕ → ℕ
role_of [] q = 0
role_of (c ∷ cs) q = cond (eqb q c) 1 (cond (member q cs) 2 0)

-- each column's role stands at its place
unfoldable pub HasRoles : List ℕ → List ℕ → Type 0
HasRoles cs roles = (q : ℕ) → get_or roles q 0 ≡ role_of cs q
