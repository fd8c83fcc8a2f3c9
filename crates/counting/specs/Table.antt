-- Tables, and when one is even (an orthogonal array of strength g): document 01, "What is counted".
use Rattle.std.specs.Prelude.{◌≡◌, ◌≢◌, Bool, true, ◌&&◌, List, [], ◌∷◌, ℕ, ◌+◌, ◌*◌, ◌≤◌, ◌<◌, eqb, length, get_or}
use Rattle.finite.specs.Sum.{count}

-- N runs, a level count for each column, and the level that stands in a run and a column, both from 0
pub record Table : Type 0 where
  pub runs : ℕ
  pub levels : List ℕ
  pub cell : ℕ → ℕ → ℕ

-- m
abbrev pub columns : Table → ℕ
columns T = length T.levels

-- s, the number of levels of column c
abbrev pub levels_of : Table → ℕ → ℕ
levels_of T c = get_or T.levels c 0

-- the table whose runs lie one after the other in a list of bytes
unfoldable pub table_of : List ℕ → List ℕ → ℕ → Table
table_of cells levels runs = record { runs = runs; levels = levels; cell = λ r c. get_or cells (r * length levels + c) 0 }

-- every entry is one of its column's levels, 0 to s - 1
unfoldable pub InRange : Table → Type 0
InRange T = (r c : ℕ) → r < T.runs → c < columns T → T.cell r c < levels_of T c

-- a level of a column
pub record Setting : Type 0 where
  pub column : ℕ
  pub level : ℕ

-- run r has each of the settings
unfoldable pub shows : Table → List Setting → ℕ → Bool
shows T [] r = true
shows T (x ∷ xs) r = eqb (T.cell r x.column) x.level && shows T xs r

-- in how many runs the settings stand together
unfoldable pub times : Table → List Setting → ℕ
times T xs = count T.runs (shows T xs)

-- s₁ × .. × s_g, over the settings' columns
unfoldable pub combinations : Table → List Setting → ℕ
combinations T [] = 1
combinations T (x ∷ xs) = levels_of T x.column * combinations T xs

-- c is the column of none of the settings
unfoldable pub Apart : ℕ → List Setting → Type 0
Apart c [] = Unit {0}
Apart c (x ∷ xs) = (c ≢ x.column) × Apart c xs

-- settings of the table in columns that are all different
unfoldable pub Settings : Table → List Setting → Type 0
Settings T [] = Unit {0}
Settings T (x ∷ xs) = (x.column < columns T) × (x.level < levels_of T x.column) × Apart x.column xs × Settings T xs

-- Strength g: the levels of any g columns, or fewer, stand together in exactly N ÷ (s₁ × .. × s_g) runs. g = 1 says that each column is
-- balanced, g = 2 adds every pair of levels of every two columns (000, 001, 004).
unfoldable pub Even : ℕ → Table → Type 0
Even g T = (xs : List Setting) → length xs ≤ g → Settings T xs → combinations T xs * times T xs ≡ T.runs
