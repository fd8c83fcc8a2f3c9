-- `checker::put_written` meets its contract: what is put is what is printed of the check that the definitions give.
use Rattle.checker.proofs.put_written.Goals as goal

pub returns : goal.returns
returns c = rw (← c.check_written.ensures.answered) c.put_check.ensures
