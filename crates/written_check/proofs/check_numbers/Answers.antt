-- `check_numbers` meets its contract, case by case.
-- Assumes nothing.
use mathlib.Core.Path.{sym, ◌∙◌, ap}
use Rattle.written_table.specs.CheckInNumbers.{check_numbers}
use Rattle.written_check.proofs.check_numbers.Goals as goal

pub returns-in-Ok : goal.returns-in-Ok
unfolding check_numbers
returns-in-Ok c = sym (ap check_numbers c.in-Ok.is)

pub returns-in-Err : goal.returns-in-Err
unfolding check_numbers
returns-in-Err c = c.numbers_of.ensures ∙ sym (ap check_numbers c.in-Err.is)
