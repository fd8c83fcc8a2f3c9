-- Arrays written as digits that the checks of `counting` take, and that fit the 1,024 bytes into which the digits are read.
use Rattle.std.specs.Prelude.{List, ℕ, ◌≤◌, length}
use Rattle.counting.specs.Checkable.{CheckableTable, CheckableMatrix, CheckableGenerator}
use Rattle.findings.specs.Digits.{digit_values}

-- the runs of a table, one after the other
pub record WrittenTable (text levels : List ℕ) (runs : ℕ) : Type 0 where
  pub short : length text ≤ 1024
  pub checkable : CheckableTable (digit_values text) levels runs

-- the rows of a matrix, one after the other
pub record WrittenMatrix (text : List ℕ) (rows columns p : ℕ) : Type 0 where
  pub short : length text ≤ 1024
  pub checkable : CheckableMatrix (digit_values text) rows columns p

-- the rows of a generator, one after the other
pub record WrittenGenerator (text : List ℕ) (t s : ℕ) (widths : List ℕ) : Type 0 where
  pub short : length text ≤ 1024
  pub checkable : CheckableGenerator (digit_values text) t s widths
