-- `report::put_answer` meets its contract: a table, or the one line of a refusal.
use borrow.Author.Rules.{rules}
use mir.Facts.{to_z-of_z}
use mir.Syntax.{w64}
use mir.Val.{SFits}
use Rattle.report.specs.Report.{answer_printed, Printable}
use Rattle.report.proofs.put_answer.Goals as goal

pub put_table-requires-clause-answer_room_in_bounds : goal.put_table-requires-clause-answer_room_in_bounds
unfolding Printable
put_table-requires-clause-answer_room_in_bounds c = c.requires.answer_room_in_bounds

pub put_table-requires-clause-table_in_buffers : goal.put_table-requires-clause-table_in_buffers
unfolding Printable
put_table-requires-clause-table_in_buffers c = rw c.in-Filled.is at c.requires.printable

pub returns-in-Filled : goal.returns-in-Filled
unfolding answer_printed
returns-in-Filled c =
    let word : SFits w64 c.in-Filled.spare = search rules in
    rw (c.in-Filled.is, ← to_z-of_z word) c.put_table.ensures

pub returns-in-Refused : goal.returns-in-Refused
unfolding answer_printed
returns-in-Refused c = rw c.in-Refused.is c.put_refused.ensures
