-- What is printed of the check of a table: three lines, each closed by a line feed (document 02, K5 and K8). Text is the list of its bytes.
use Rattle.std.specs.Prelude.{List, [], ◌∷◌, ◌++◌, ℕ, ℤ, Result, Ok, Err}
use Rattle.decimals.specs.Decimals.{decimal_digits, signed_digits}
use Rattle.words.specs.Words.{Reading, numbers, refused}
use Rattle.sheets.specs.declared.answer.Refusal.TheVariants.{Unreadable}
use Rattle.sheets.specs.declared.answer.Refusal.{Refusal}
use Rattle.report.specs.Report.{refusal_line}
use Rattle.written_table.specs.WrittenTable.{refused_check, table_check}
use Rattle.written_table.specs.declared.TableCheck.{TableCheck}

-- The first line: "passes", or the refusal as the planner prints it.
unfoldable pub passing_line : Result (Unit {0}) Refusal → List ℕ
passing_line (Ok tt) = 112 ∷ 97 ∷ 115 ∷ 115 ∷ 101 ∷ 115 ∷ 10 ∷ []
passing_line (Err why) = refusal_line why

-- The second: "gap" and the signed gap.
unfoldable pub gap_line : ℤ → List ℕ
gap_line gap = (103 ∷ 97 ∷ 112 ∷ 32 ∷ []) ++ signed_digits gap ++ (10 ∷ [])

-- The third: "pairs" and how many pairs of columns were counted.
unfoldable pub pairs_line : ℕ → List ℕ
pairs_line pairs = (112 ∷ 97 ∷ 105 ∷ 114 ∷ 115 ∷ 32 ∷ []) ++ decimal_digits pairs ++ (10 ∷ [])

unfoldable pub check_printed : TableCheck → List ℕ
check_printed check = passing_line check.passing ++ gap_line check.gap ++ pairs_line check.pairs

-- Room for any check: a refusal has at most 155 bytes, the line of the gap 25, and that of the pairs 27.
abbrev pub check_room : ℕ
check_room = 207

-- What the program prints of the text that it reads. A word that is no number is refused as 2 at its place before the list is tried, as the planner has it.
abbrev pub reading_checked : Reading → List ℕ
reading_checked (numbers list) = check_printed (table_check list)
reading_checked (refused place) = check_printed (refused_check (Unreadable place))
