-- `check_written` keeps its promise: its answer is what the definitions give.
-- Assumes nothing.
use mathlib.Core.Path.{sym, ◌∙◌}
use Rattle.written_table.proofs.CheckPromises.{promised_by}
use Rattle.written_check.proofs.Answers.{read_refused, read_as}
use Rattle.written_check.proofs.check_written.Goals as goal

pub check_entries-requires : goal.check_entries-requires
check_entries-requires c = read_as _ (sym c.read_table.ensures ∙ c.in-Ok.is)

pub returns-in-Ok : goal.returns-in-Ok
returns-in-Ok c = promised_by c.check_entries.ensures

pub returns-in-Err : goal.returns-in-Err
returns-in-Err c = promised_by (read_refused _ (sym c.read_table.ensures ∙ c.in-Err.is) c.refused.ensures)
