-- A sheet that is handed in: document 02, K3, "Here and in later requests". N runs of m columns lie one after the other in the bytes of a table, and the
-- level counts of the columns in a level list. It need not be even, nor come from the planner.
use Rattle.std.specs.Prelude.{Bool, ◌&&◌, List, ℕ, ◌+◌, ◌*◌, ◌≤◌, ◌<◌, leb, ltb, length, get_or, take}
use Rattle.finite.specs.Sum.{every}
use Rattle.counting.specs.Table.{Table, table_of}

-- A sheet handed in is refused as 1 "when its runs, columns or levels are outside 1 to 512, 1 to 128 or 2 to 64, an entry is not below its level, or its
-- table or level list is shorter than N × m or m bytes"; so it is not refused when
pub record WellFormed (N m : ℕ) (levels table : List ℕ) : Type 0 where
  pub runs_some : 1 ≤ N
  pub runs_most : N ≤ 512
  pub columns_some : 1 ≤ m
  pub columns_most : m ≤ 128
  pub counts_there : m ≤ length levels
  pub entries_there : N * m ≤ length table
  pub counts_least : (c : ℕ) → c < m → 2 ≤ get_or levels c 0
  pub counts_most : (c : ℕ) → c < m → get_or levels c 0 ≤ 64
  pub in_range : (r c : ℕ) → r < N → c < m → get_or table (r * m + c) 0 < get_or levels c 0

-- the same as tests: the size, which comes before any product or place,
unfoldable pub size_within : ℕ → ℕ → Bool
size_within N m = leb 1 N && leb N 512 && leb 1 m && leb m 128

-- the lengths of the two buffers,
unfoldable pub buffers_long : ℕ → ℕ → List ℕ → List ℕ → Bool
buffers_long N m levels table = leb m (length levels) && leb (N * m) (length table)

-- the level counts,
unfoldable pub counts_within : ℕ → List ℕ → Bool
counts_within m levels = every m (λ c. leb 2 (get_or levels c 0) && leb (get_or levels c 0) 64)

-- the entries,
unfoldable pub entries_below : ℕ → ℕ → List ℕ → List ℕ → Bool
entries_below N m levels table = every N (λ r. every m (λ c. ltb (get_or table (r * m + c) 0) (get_or levels c 0)))

-- and all of them
unfoldable pub well_formed : ℕ → ℕ → List ℕ → List ℕ → Bool
well_formed N m levels table = size_within N m && buffers_long N m levels table && counts_within m levels && entries_below N m levels table

-- the sheet itself: what follows the N × m entries and the m level counts is no part of it
unfoldable pub given_sheet : ℕ → ℕ → List ℕ → List ℕ → Table
given_sheet N m levels table = table_of table (take m levels) N
