-- A number below 1,000, character by character.
use Rattle.std.specs.Prelude.{cond, ℕ, ◌+◌, ◌%◌, eqb}

-- the last digit of a number that stands before other digits: a blank where there is none
unfoldable pub leading : ℕ → ℕ
leading n = cond (eqb n 0) 32 (48 + n % 10)
