-- What is printed: document 01, "Printed runs". Text is the list of its bytes.
use Rattle.std.specs.Prelude.{List, [], ◌∷◌, ◌++◌, ℕ, zero, suc, ℤ, length, take, drop}
use Rattle.decimals.specs.Decimals.{decimal_digits, signed_digits}
use Rattle.rows.specs.Rows.{spaced, line}

-- The bytes of "refused".
abbrev pub refused_word : List ℕ
refused_word = 114 ∷ 101 ∷ 102 ∷ 117 ∷ 115 ∷ 101 ∷ 100 ∷ []

-- "A refusal prints one line: "refused", the number and the six details." These are seven numbers.
unfoldable pub refused_line : List ℕ → List ℕ
refused_line numbers = refused_word ++ spaced numbers ++ (10 ∷ [])

-- So many runs, one to a line, whose cells of m columns stand run by run.
abbrev pub run_lines : ℕ → ℕ → List ℕ → List ℕ
run_lines zero m cells = []
run_lines (suc runs) m cells = line (take m cells) ++ run_lines runs m (drop m cells)

-- Document 02, K1: "The header becomes "N m spare"", where spare is a signed number.
unfoldable pub header : ℕ → ℕ → ℤ → List ℕ
header N m spare = decimal_digits N ++ (32 ∷ decimal_digits m) ++ (32 ∷ signed_digits spare) ++ (10 ∷ [])

-- A filled order prints the header, "the level counts, then the runs". There are as many level counts as columns.
unfoldable pub printed : ℕ → ℤ → List ℕ → List ℕ → List ℕ
printed runs spare levels cells = header runs (length levels) spare ++ line levels ++ run_lines runs (length levels) cells
