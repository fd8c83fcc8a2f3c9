-- How many pages there are, and that a page has a run and a column.
-- Assumes nothing.
use Prim.Native.Nat.{ℕ, ◌-◌, ◌*◌, ◌/◌, ◌%◌, ◌≤◌, ◌<◌}
use native.Mathlib.Nat.{div-lt_iff_lt-mul, mod-lt, mul-le-mul}
use native.Mathlib.Omega.{arith}
use Rattle.page_text.specs.Pages.{parts, page_count, first_run, first_column}

-- at most 9 parts of runs and 6 of columns
pub pages_most : (N m : ℕ) → N ≤ 512 → m ≤ 128 → page_count N m ≤ 54
unfolding page_count parts
pages_most N m h k = mul-le-mul {n₂ = 9} {m₂ = 6} (omega arith) (omega arith)

-- a part begins with one of the runs, or of the columns
run_within : (N q : ℕ) → q < parts 58 N → q * 58 < N
unfolding parts
run_within N q h = omega arith

column_within : (m q : ℕ) → q < parts 25 m → q * 25 < m
unfolding parts
column_within m q h = omega arith

-- where there is a run, there is a part
pub parts_some : (N : ℕ) → 1 ≤ N → 1 ≤ parts 58 N
unfolding parts
parts_some N h = omega arith

-- the first run and the first column of a page are the sheet's
pub first_run_there : (N n : ℕ) → 1 ≤ N → first_run N n < N
unfolding first_run
first_run_there N n some = run_within N ((n - 1) % parts 58 N) (mod-lt (n - 1) (parts_some N some))

pub first_column_there : (N m n : ℕ) → 1 ≤ N → 1 ≤ n → n ≤ page_count N m → first_column N n < m
unfolding first_column page_count
first_column_there N m n some one most =
    column_within m ((n - 1) / parts 58 N) ((div-lt_iff_lt-mul (parts_some N some)).1 (omega arith))
