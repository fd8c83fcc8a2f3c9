-- `check_entries` meets its contract: question 3, and the verdict where every entry is in range.
-- Assumes nothing.
use mathlib.Core.Path.{sym, ap, ◌∙◌}
use Rattle.std.specs.Prelude.{Err}
use Rattle.written_check.proofs.Answers.{out_of_range, unread}
use Rattle.written_check.proofs.check_entries.Goals as goal

pub check_in_range-requires-clause-read_as : goal.check_in_range-requires-clause-read_as
check_in_range-requires-clause-read_as c = c.requires

pub check_in_range-requires-clause-list_value : goal.check_in_range-requires-clause-list_value
check_in_range-requires-clause-list_value c = sym c.first_out_of_range_among.ensures ∙ c.in-Ok.is

pub returns-in-Err-OutOfRange : goal.returns-in-Err-OutOfRange
returns-in-Err-OutOfRange c =
    out_of_range c.requires (sym c.first_out_of_range_among.ensures ∙ c.in-Err-OutOfRange.is ∙ ap (λ fault. Err fault) c.in-Err-OutOfRange.field-0-is) (rw c.in-Err-OutOfRange.field-0-is at c.refused.ensures)

pub returns-in-Err-Unread : goal.returns-in-Err-Unread
returns-in-Err-Unread c =
    unread c.requires (sym c.first_out_of_range_among.ensures ∙ c.in-Err-Unread.is ∙ ap (λ fault. Err fault) c.in-Err-Unread.field-0-is) c.refused-in-Err-Unread.ensures
