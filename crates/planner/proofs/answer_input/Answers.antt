-- `planner::answer_input` meets its contract: what was put for the text that was scanned is what is printed for it.
use Rattle.report.specs.Report.{reading_printed}
use Rattle.input.proofs.Answers.{input_put}
use Rattle.planner.proofs.answer_input.Goals as goal

pub returns : goal.returns
returns g c = input_put reading_printed c.scan_input-scanned.ensures c.put_scanned.ensures
