-- Question 1 (document 01, "The questions, in turn"), from the lengths of the three buffers alone.
use Rattle.std.specs.Prelude.{ℕ, ◌≤◌}

-- the lengths of run table, level list and scratch
pub record Lengths : Type 0 where
  pub table : ℕ
  pub levels : ℕ
  pub scratch : ℕ

-- question 1: are the run table and scratch each 65,536 bytes or more and the level list 128 bytes or more?
pub record Suffices (lengths : Lengths) : Type 0 where
  pub table_long : 65536 ≤ lengths.table
  pub levels_long : 128 ≤ lengths.levels
  pub scratch_long : 65536 ≤ lengths.scratch
