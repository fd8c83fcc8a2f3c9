-- A table that is handed in by itself: document 02, K5 and K8. It is written as an ingredient of an order is (01, "The order"), kind 1, rows, columns, level
-- counts and entries, with nothing after them; and the questions 2, 3 and 4 are asked of it as of ingredient 1.
use Rattle.std.specs.Prelude.{List, ℕ, ltb, eqb, pos, length, get_or, Err, Result, Ok}
use Rattle.order.specs.Order.{Ingredient, table, matrix, generator}
use Rattle.order.specs.Reader.{Parsed, value, refused, when, ◌>>=◌}
use Rattle.order.specs.Grammar.{read_ingredient, at_end}
use Rattle.order.specs.Range.{ingredient_range}
use Rattle.order.specs.declared.RangeFault.{RangeFault}
use Rattle.order.specs.declared.RangeFault.TheVariants.{OutOfRange, Unread}
use Rattle.counting.specs.Table.{table_of}
use Rattle.counting.specs.Verdict.{table_verdict}
use Rattle.counting.specs.declared.verdict.TableVerdict.{TableVerdict}
use Rattle.sheets.specs.Outcome.{table_refusal}
use Rattle.sheets.specs.declared.answer.Refusal.{Refusal}
use Rattle.sheets.specs.declared.answer.Refusal.TheVariants.{Unreadable, EntryOutOfRange}
use Rattle.question_4.specs.Passing.{passing_of}
use Rattle.written_table.specs.declared.TableCheck.{TableCheck}

-- Question 2: the table that the list writes, or the place where the list is refused. A list over 32,768 numbers is refused unread, and one whose first
-- number is not 1, for a table, at that number.
unfoldable pub read_table : List ℕ → Parsed Ingredient
read_table list =
    when (ltb 32768 (length list)) (refused 32768)
    (when (eqb (get_or list 0 0) 1) ((read_ingredient >>= at_end) list 0) (refused 0))

-- By questions 2 and 3 there is no pair of levels to tell the gap of, and no pair of columns is counted.
abbrev pub refused_check : Refusal → TableCheck
refused_check why = record { passing = Err why; gap = pos 0; pairs = 0 }

-- Question 4: the verdict on ingredient 1, with the gap and the pairs of columns that were counted beside it.
abbrev pub verdict_check : TableVerdict → TableCheck
verdict_check verdict = record { passing = passing_of (table_refusal 1 verdict.finding); gap = verdict.gap; pairs = verdict.pairs }

-- Question 3, and then the verdict. The question is asked of all that was read, so the last case does not come up.
abbrev pub range_check : Result (Unit {0}) RangeFault → TableVerdict → TableCheck
range_check (Ok asked) verdict = verdict_check verdict
range_check (Err (OutOfRange place)) verdict = refused_check (EntryOutOfRange place)
range_check (Err Unread) verdict = refused_check (Unreadable 0)

-- What was read, whose level counts stand at place 3. As its first number is 1, it is a table.
abbrev pub ingredient_check : Ingredient → TableCheck
ingredient_check (table rows levels entries) =
    range_check (ingredient_range 3 (table rows levels entries)) (table_verdict (table_of entries levels rows))
ingredient_check (matrix rows columns p entries) = refused_check (Unreadable 0)
ingredient_check (generator t s widths entries) = refused_check (Unreadable 0)

abbrev pub parsed_check : Parsed Ingredient → TableCheck
parsed_check (value g next) = ingredient_check g
parsed_check (refused place) = refused_check (Unreadable place)

-- The answer: question 2, then 3, then 4.
unfoldable pub table_check : List ℕ → TableCheck
table_check list = parsed_check (read_table list)
