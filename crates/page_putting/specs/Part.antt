-- The part of a sheet that is on a page, as the code has it.
use Rattle.std.specs.Prelude.{cond, List, [], ◌++◌, ℕ, ◌+◌, ◌-◌, ◌*◌, ◌≤◌, ◌<◌, min, ltb, length, get_or, take, drop}
use Rattle.page_text.specs.Pages.{right_aligned, in_three, closed, first_run, first_column}
use Rattle.page_putting.specs.declared.Part.{Part}

-- the part of a sheet of so many runs and columns that page n has
unfoldable pub part_of : ℕ → ℕ → ℕ → Part
part_of runs columns n =
    let first = first_column runs n in
    record { run = first_run runs n; column = first; end = first + min 25 (columns - first) }

-- up to 25 columns of a sheet within the limits, all of whose entries lie in the table and are levels
pub record PartIn (runs columns : ℕ) (table : List ℕ) (part : Part) : Type 0 where
  pub runs_most : runs ≤ 512
  pub entries_there : runs * columns ≤ length table
  pub first_before : part.column ≤ part.end
  pub few : part.end ≤ part.column + 25
  pub end_within : part.end ≤ columns
  pub start_most : part.run ≤ 512
  pub levels_small : (r c : ℕ) → r < runs → c < columns → get_or table (r * columns + c) 0 < 64

-- the line of run r, whose levels lie one after the other in the table
unfoldable pub part_line : ℕ → ℕ → List ℕ → Part → ℕ → List ℕ
part_line runs columns table part r =
    cond (ltb r runs) (closed (right_aligned 4 r ++ in_three (take (part.end - part.column) (drop (r * columns + part.column) table)))) (closed [])
