-- `assign_roles` meets its contract. The invariant: the members before the one in hand fit, and have their roles.
use Rattle.merge_questions.specs.Questions.{members_of}
use Rattle.merge_questions.proofs.Roles.{RolesGiven}
use Rattle.merge_questions.proofs.assign_roles.Given as goal

abbrev pub invariant-loop-h : goal.invariant-loop-h
invariant-loop-h l = RolesGiven l.p (members_of l.members) l.levels l.h l.roles
