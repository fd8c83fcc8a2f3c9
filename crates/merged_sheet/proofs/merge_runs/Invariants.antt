-- `merge_runs` meets its contract. The invariant: the runs of the next sheet before the run in hand are put.
use lib.ListN.{length}
use Rattle.counting.specs.Table.{table_of}
use Rattle.step_tables.specs.Merge.{merge_step}
use Rattle.merge_questions.specs.Questions.{members_of}
use Rattle.merged_sheet.proofs.Sheet.{RunsPut}
use Rattle.merged_sheet.proofs.merge_runs.Given as goal

abbrev pub invariant-loop-run : goal.invariant-loop-run
invariant-loop-run l =
    RunsPut (merge_step l.p (members_of l.members) (table_of l.table l.levels l.runs)) (length l.levels) l.initial.scratch l.run l.scratch l.place
