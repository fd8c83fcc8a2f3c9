-- `check_in_range` meets its contract: what was read is a table, which stands in the list.
-- Assumes nothing.
use Rattle.written_check.proofs.Answers.{stands_there, no_other, verdict_answer}
use Rattle.written_check.proofs.check_in_range.Goals as goal

pub returns-in_default : goal.returns-in_default
returns-in_default c = absurd (no_other c.requires.read_as c.requires.list_value c.in_default.not-Table)

pub verdict_there-requires : goal.verdict_there-requires
verdict_there-requires c = stands_there c.requires.read_as c.requires.list_value c.in-Table.is

pub returns : goal.returns
returns c =
    verdict_answer c.requires.read_as c.requires.list_value c.in-Table.is c.verdict_there.ensures c.judged.ensures
