-- "Every printed level must be the sheet's": document 02, K3, as a statement about the bytes of a page. Pages count from 1; lines, places in a line, runs and
-- columns from 0.
use Rattle.std.specs.Prelude.{◌≡◌, List, [], ◌∷◌, ◌⊎◌, ℕ, suc, ◌+◌, ◌*◌, ◌/◌, ◌%◌, ◌≤◌, ◌<◌, length, get_or, take, drop}
use Rattle.decimals.specs.Decimals.{decimal_digits}
use Rattle.counting.specs.Table.{Table, columns, levels_of}
use Rattle.words.specs.Words.{numbers, reading}
use Rattle.page_text.specs.Pages.{blanks, right_aligned, parts, page_count}

-- the page, the line and the place in it where the level of run r and column c stands: 58 runs of 25 columns to a page, all runs of the first 25 columns
-- before the next 25
unfoldable pub page_of : ℕ → ℕ → ℕ → ℕ
page_of runs r c = 1 + (c / 25 * parts 58 runs + r / 58)

abbrev pub line_of : ℕ → ℕ
line_of r = 2 + r % 58

abbrev pub place_of : ℕ → ℕ
place_of c = 4 + 3 * (c % 25)

-- w characters of a page, from a place of a line on; a line has 79 characters and a line feed
abbrev pub characters : List ℕ → ℕ → ℕ → ℕ → List ℕ
characters page line place w = take w (drop (80 * line + place) page)

-- they are the number, right-aligned, and are read back as it, by the rule for the words of an order
pub record ShowsNumber (page : List ℕ) (line place w number : ℕ) : Type 0 where
  pub aligned : characters page line place w ≡ right_aligned w number
  pub reads : reading (characters page line place w) ≡ numbers (number ∷ [])

-- they are blank
abbrev pub Blank : List ℕ → ℕ → ℕ → ℕ → Type 0
Blank page line place w = characters page line place w ≡ blanks w

-- run r and column c are on page n of the sheet T
pub record On (T : Table) (n r c : ℕ) : Type 0 where
  pub run_there : r < T.runs
  pub column_there : c < columns T
  pub page_is : page_of T.runs r c ≡ n

-- n is at most so much, and has room in w characters
abbrev pub RoomIn : ℕ → ℕ → ℕ → Type 0
RoomIn w most n = (n ≤ most) × (length (decimal_digits n) ≤ w)

-- The widths suffice: page numbers to 54 and run numbers to 511 have room in 4, column numbers to 128, level counts to 64 and levels to 63 in 3.
pub record Widths (T : Table) (n : ℕ) : Type 0 where
  pub page_number : RoomIn 4 54 n
  pub run_number : (r : ℕ) → r < T.runs → RoomIn 4 511 r
  pub column_number : (c : ℕ) → c < columns T → RoomIn 3 128 (suc c)
  pub level_count : (c : ℕ) → c < columns T → RoomIn 3 64 (levels_of T c)
  pub level : (r c : ℕ) → r < T.runs → c < columns T → RoomIn 3 63 (T.cell r c)

-- Page n of the sheet T, all 4,800 bytes of it.
pub record Faithful (T : Table) (n : ℕ) (page : List ℕ) : Type 0 where
  pub many : length page ≡ 4800
  pub widths : Widths T n
  pub page_number : ShowsNumber page 0 0 4 n
  -- for every run and column on the page: its level, the number of the run before it, and the column's number and level count above it
  pub level : (r c : ℕ) → On T n r c → ShowsNumber page (line_of r) (place_of c) 3 (T.cell r c)
  pub run_number : (r c : ℕ) → On T n r c → ShowsNumber page (line_of r) 0 4 r
  pub column_number : (r c : ℕ) → On T n r c → ShowsNumber page 0 (place_of c) 3 (suc c)
  pub level_count : (r c : ℕ) → On T n r c → ShowsNumber page 1 (place_of c) 3 (levels_of T c)
  -- and nothing else: the three characters of a place are those of a run and column on the page, or blank; so are the first four of a line
  pub level_only : (k j : ℕ) → k < 58 → j < 25
      → ((r : ℕ) × (c : ℕ) × On T n r c × (line_of r ≡ 2 + k) × (place_of c ≡ 4 + 3 * j)) ⊎ Blank page (2 + k) (4 + 3 * j) 3
  pub run_number_only : (k : ℕ) → k < 58 → ((r : ℕ) × (c : ℕ) × On T n r c × (line_of r ≡ 2 + k)) ⊎ Blank page (2 + k) 0 4
  pub column_only : (j : ℕ) → j < 25
      → ((r : ℕ) × (c : ℕ) × On T n r c × (place_of c ≡ 4 + 3 * j)) ⊎ (Blank page 0 (4 + 3 * j) 3 × Blank page 1 (4 + 3 * j) 3)
  pub corner : Blank page 1 0 4
  pub line_feed : (k : ℕ) → k < 60 → get_or page (80 * k + 79) 0 ≡ 10

-- Over all pages of a sheet of N runs and m columns: every run and column has its page, and no two have one place. With what a page shows, and shows
-- nothing else, every run and column is printed exactly once.
pub record PrintedOnce (N m : ℕ) : Type 0 where
  pub page_there : (r c : ℕ) → r < N → c < m → (1 ≤ page_of N r c) × (page_of N r c ≤ page_count N m)
  pub places_apart : (r c r' c' : ℕ) → r < N → r' < N → page_of N r c ≡ page_of N r' c' → line_of r ≡ line_of r' → place_of c ≡ place_of c' → (r ≡ r') × (c ≡ c')
