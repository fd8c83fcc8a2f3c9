-- What is printed of an answer: document 01, "Printed runs", with the header of document 02, K1.
use mathlib.Core.List.{List, map, flat_map}
use Rattle.std.specs.Prelude.{ℕ, take}
use Rattle.finite.specs.Lists.{from}
use Rattle.counting.specs.Table.{Table, columns}
use Rattle.spare.specs.Spare.{spare}
use Rattle.lines.specs.Lines.{refused_line, printed}
pub use Rattle.printed_table.specs.Room.{answer_room, TableInBuffers}
use Rattle.words.specs.Words.{Reading, numbers, refused, reading}
use Rattle.sheets.specs.Refusals.{numbered}
use Rattle.sheets.specs.Steps as steps
use Rattle.sheets.specs.Outcome.{outcome}
use Rattle.sheets.specs.declared.answer.Refusal.{Refusal}
use Rattle.sheets.specs.declared.answer.Refusal.TheVariants.{Unreadable}
use Rattle.sheets.specs.declared.answer.Answer.{Answer}
use Rattle.sheets.specs.declared.answer.Answer.TheVariants.{Filled, Refused}

-- "A refusal prints one line: "refused", the number and the six details."
unfoldable pub refusal_line : Refusal → List ℕ
refusal_line why = refused_line (numbered why)

-- What is printed of an answer, with the level list and the run table that came with it: of a filled order "N m spare", the level counts and the runs.
unfoldable pub answer_printed : Answer → List ℕ → List ℕ → List ℕ
answer_printed (Filled runs columns spared) levels cells = printed runs spared (take columns levels) cells
answer_printed (Refused why) levels cells = refusal_line why

unfoldable pub Printable : Answer → List ℕ → List ℕ → Type 0
Printable (Filled runs columns spared) levels cells = TableInBuffers runs columns levels cells
Printable (Refused why) levels cells = Unit {0}

-- What the program prints, from what it reads, both as bytes. First of an outcome: the table run by run, or the refusal.
unfoldable pub outcome_printed : steps.Outcome → List ℕ
outcome_printed (steps.filled S) = printed S.runs (spare S) S.levels (flat_map (λ r. map (S.cell r) (from 0 (columns S))) (from 0 S.runs))
outcome_printed (steps.refused why) = refusal_line why

-- "The first word that is no decimal number up to 65,535, or else the 32,769th word, whichever comes earlier, is refused as 2 at its place before
-- the list is tried."
abbrev pub reading_printed : Reading → List ℕ
reading_printed (numbers list) = outcome_printed (outcome list)
reading_printed (refused place) = refusal_line (Unreadable place)

unfoldable pub output : List ℕ → List ℕ
output input = reading_printed (reading input)

-- A program that shows something else of a sheet, as its pages (02, K3) or what it costs (02, K7), prints this of the sheet of an outcome, or the refusal.
abbrev pub outcome_by : (Table → List ℕ) → steps.Outcome → List ℕ
outcome_by shown (steps.filled S) = shown S
outcome_by shown (steps.refused why) = refusal_line why

abbrev pub reading_by : (Table → List ℕ) → Reading → List ℕ
reading_by shown (numbers list) = outcome_by shown (outcome list)
reading_by shown (refused place) = refusal_line (Unreadable place)
