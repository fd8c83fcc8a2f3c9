-- Run sheets on paper: document 02, K3. "A page is 60 lines of 79 characters and a line feed, 4,800 bytes." Text is the list of its bytes.
use Rattle.std.specs.Prelude.{cond, ℕ, zero, suc, ◌+◌, ◌-◌, ◌*◌, ◌/◌, ◌%◌, ◌≤◌, ◌<◌, min, ltb, length, replicate}
use mathlib.Core.List.{List, [], ◌∷◌, ◌++◌, map, flat_map}
use Rattle.finite.specs.Lists.{from}
use Rattle.decimals.specs.Decimals.{decimal_digits}
use Rattle.counting.specs.Table.{Table, columns, levels_of, InRange}

-- n blanks, the byte 32
abbrev pub blanks : ℕ → List ℕ
blanks n = replicate n 32

-- "right-aligned in w": the number's digits after as many blanks as make w characters
unfoldable pub right_aligned : ℕ → ℕ → List ℕ
right_aligned w n = blanks (w - length (decimal_digits n)) ++ decimal_digits n

-- "each right-aligned in 3"
unfoldable pub in_three : List ℕ → List ℕ
in_three ns = flat_map (right_aligned 3) ns

-- "blanks to 79", and a line feed, the byte 10
unfoldable pub closed : List ℕ → List ℕ
closed text = text ++ blanks (79 - length text) ++ (10 ∷ [])

-- how many parts of k things n things make; the last part may have fewer
unfoldable pub parts : ℕ → ℕ → ℕ
parts k n = (n + (k - 1)) / k

-- the numbers from a on that are below n, "up to" k of them
unfoldable pub up_to : ℕ → ℕ → ℕ → List ℕ
up_to k a n = from a (min k (n - a))

-- the number of pages, from runs and columns alone: 58 runs of 25 columns to a page
unfoldable pub page_count : ℕ → ℕ → ℕ
page_count runs columns = parts 58 runs * parts 25 columns

-- "Pages count from 1, all runs of the first 25 columns before the next 25": the first run and the first column of page n, both from 0
unfoldable pub first_run : ℕ → ℕ → ℕ
first_run runs n = (n - 1) % parts 58 runs * 58

unfoldable pub first_column : ℕ → ℕ → ℕ
first_column runs n = (n - 1) / parts 58 runs * 25

-- the columns on page n of the sheet T, from 0: up to 25
unfoldable pub columns_on : Table → ℕ → List ℕ
columns_on T n = up_to 25 (first_column T.runs n) (columns T)

-- "Line 1: the page number right-aligned in 4, then up to 25 column numbers, each right-aligned in 3, blanks to 79." Column numbers count from 1.
unfoldable pub number_line : Table → ℕ → List ℕ
number_line T n = closed (right_aligned 4 n ++ in_three (map suc (columns_on T n)))

-- "Line 2: 4 blanks, then level counts in 3."
unfoldable pub count_line : Table → ℕ → List ℕ
count_line T n = closed (blanks 4 ++ in_three (map (levels_of T) (columns_on T n)))

-- "the run number from 0 in 4, levels in 3. Unused lines are blank."
unfoldable pub run_line : Table → ℕ → ℕ → List ℕ
run_line T n r = cond (ltb r T.runs) (closed (right_aligned 4 r ++ in_three (map (T.cell r) (columns_on T n)))) (closed [])

-- the lines of page n, from 0: "Then up to 58 runs"
unfoldable pub page_line : Table → ℕ → ℕ → List ℕ
page_line T n zero = number_line T n
page_line T n (suc zero) = count_line T n
page_line T n (suc (suc k)) = run_line T n (first_run T.runs n + k)

-- page n of the sheet T
unfoldable pub page_text : Table → ℕ → List ℕ
page_text T n = flat_map (page_line T n) (from 0 60)

-- a sheet whose numbers have room in their places: it is within the limits, and its levels are in range
pub record HasRoom (T : Table) : Type 0 where
  pub runs_most : T.runs ≤ 512
  pub columns_most : columns T ≤ 128
  pub counts_most : (c : ℕ) → c < columns T → levels_of T c ≤ 64
  pub in_range : InRange T
