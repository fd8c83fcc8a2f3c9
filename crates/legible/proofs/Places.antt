-- Where runs and columns stand: from a run and a column to their page, and from a page to its runs and columns.
-- Assumes nothing.
use mathlib.Core.Path.{◌≡◌, sym, ◌∙◌, ap}
use Prim.Native.Nat.{ℕ, ◌+◌, ◌-◌, ◌*◌, ◌/◌, ◌%◌, ◌≤◌, ◌<◌}
use native.Mathlib.Nat.{div-add-mod'}
use native.Mathlib.Omega.{arith}
use lib.Arith.{digits_lt, digits_div, digits_mod}
use Rattle.counting.specs.Table.{Table, columns}
use Rattle.page_text.specs.Pages.{parts, page_count, first_run, first_column}
use Rattle.legible.specs.Faithful.{page_of, line_of, place_of, On, PrintedOnce}

-- run k and column j of page n, both from 0
abbrev pub run_at : Table → ℕ → ℕ → ℕ
run_at T n k = first_run T.runs n + k

abbrev pub column_at : Table → ℕ → ℕ → ℕ
column_at T n j = first_column T.runs n + j

-- ---- from a run and a column to their page

-- a run is in one of the parts of 58 runs
run_part : (N r : ℕ) → r < N → r / 58 < parts 58 N
unfolding parts
run_part N r h = omega arith

-- a column is in one of the parts of 25 columns
column_part : (m c : ℕ) → c < m → c / 25 < parts 25 m
unfolding parts
column_part m c h = omega arith

-- how many pages are before theirs
pages_before : (N r c : ℕ) → page_of N r c - 1 ≡ c / 25 * parts 58 N + r / 58
unfolding page_of
pages_before N r c = omega arith

-- the first run of the page that a run is on
first_run_lem : (N r c : ℕ) → r < N → first_run N (page_of N r c) ≡ r / 58 * 58
unfolding first_run
first_run_lem N r c h = rw (pages_before N r c, digits_mod (c / 25) (run_part N r h))

-- the first column of the page that a column is on
first_column_lem : (N r c : ℕ) → r < N → first_column N (page_of N r c) ≡ c / 25 * 25
unfolding first_column
first_column_lem N r c h = rw (pages_before N r c, digits_div (c / 25) (run_part N r h))

-- a run on page n, by its line
pub on_run : {T : Table} {n r c : ℕ} → On T n r c → r ≡ run_at T n (r % 58)
on_run {T} {n} {r} {c} on = omega (arith, ap (first_run T.runs) (sym on.page_is) ∙ first_run_lem T.runs r c on.run_there)

-- a column on page n, by its place
pub on_column : {T : Table} {n r c : ℕ} → On T n r c → c ≡ column_at T n (c % 25)
on_column {T} {n} {r} {c} on = omega (arith, ap (first_column T.runs) (sym on.page_is) ∙ first_column_lem T.runs r c on.run_there)

-- every run and column has its page, and no two have one place
pub printed_once : (N m : ℕ) → PrintedOnce N m
unfolding page_of page_count
printed_once N m =
    record {
      page_there = λ r c h k. (omega arith, omega (arith, digits_lt (column_part m c k) (run_part N r h)));
      places_apart = λ r c r' c' h h' page line place. (
        omega (arith, sym (first_run_lem N r c h) ∙ ap (first_run N) page ∙ first_run_lem N r' c' h'),
        omega (arith, sym (first_column_lem N r c h) ∙ ap (first_column N) page ∙ first_column_lem N r' c' h'),
      );
    }

-- ---- from a page to its runs and columns

-- the page that they are on
page_back : (T : Table) (n k j : ℕ) → 1 ≤ n → k < 58 → j < 25 → page_of T.runs (run_at T n k) (column_at T n j) ≡ n
unfolding first_run first_column page_of
page_back T n k j one h l =
    let b = parts 58 T.runs in
    rw (digits_div ((n - 1) % b) h, digits_div ((n - 1) / b) l) (omega (arith, div-add-mod' (n - 1) b))

-- run k and column j of the page are on it, where the sheet has them
pub on_there : (T : Table) (n k j : ℕ) → 1 ≤ n → k < 58 → j < 25 → run_at T n k < T.runs → column_at T n j < columns T → On T n (run_at T n k) (column_at T n j)
on_there T n k j one h l run column = record { run_there = run; column_there = column; page_is = page_back T n k j one h l }

-- the line of a run of the page
pub line_there : (T : Table) (n k : ℕ) → k < 58 → line_of (run_at T n k) ≡ 2 + k
unfolding first_run
line_there T n k h = omega arith

-- the place of a column of the page
pub place_there : (T : Table) (n j : ℕ) → j < 25 → place_of (column_at T n j) ≡ 4 + 3 * j
unfolding first_column
place_there T n j h = omega arith
