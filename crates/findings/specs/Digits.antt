-- An array as a text of digits, as the papers print it.
use Rattle.std.specs.Prelude.{List, map, ℕ, ◌%◌}

-- the digit whose ASCII code is given: the codes are 48 to 57, and 48 is a multiple of 16
abbrev pub digit_value : ℕ → ℕ
digit_value code = code % 16

abbrev pub digit_values : List ℕ → List ℕ
digit_values text = map digit_value text
