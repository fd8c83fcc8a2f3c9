-- `check_members` meets its contract. The invariant: in the runs before the one in hand every member is its sum.
use Rattle.counting.specs.Table.{table_of}
use Rattle.merge_questions.specs.Questions.{members_of}
use Rattle.member_check.proofs.Members.{RightRuns}
use Rattle.member_check.proofs.check_members.Given as goal

abbrev pub invariant-loop-run : goal.invariant-loop-run
invariant-loop-run l = RightRuns l.p (members_of l.members) (table_of l.table l.levels l.runs) l.run
