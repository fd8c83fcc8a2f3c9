-- `put_passing` meets its contract, case by case.
-- Assumes nothing.
use Rattle.check_report.specs.CheckReport.{passing_line}
use Rattle.check_report.proofs.put_passing.Goals as goal

pub returns-in-Ok : goal.returns-in-Ok
unfolding passing_line
returns-in-Ok c = rw c.in-Ok.is c.put_bytes.ensures

pub returns-in-Err : goal.returns-in-Err
unfolding passing_line
returns-in-Err c = rw c.in-Err.is c.put_refused.ensures
