-- `wrong_in_run` meets its contract. The invariant: the members before the one in hand are their sums, and the sum in hand is that of the last of them.
use mathlib.Core.Path.{◌≡◌}
use Rattle.step_tables.specs.Merge.{member_sum}
use Rattle.merge_questions.specs.Questions.{members_of}
use Rattle.member_check.specs.MemberCheck.{every_run}
use Rattle.member_check.proofs.Members.{RightBefore}
use Rattle.member_check.proofs.wrong_in_run.Given as goal

abbrev pub invariant-loop-h : goal.invariant-loop-h
invariant-loop-h l =
    (l.sum ≡ member_sum l.p (members_of l.members) (every_run l.row) l.run l.h) × RightBefore l.p (members_of l.members) l.row l.run l.h
