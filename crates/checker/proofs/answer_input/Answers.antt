-- `checker::answer_input` meets its contract: what was put for the text that was scanned is what is printed for it.
use Rattle.check_report.specs.CheckReport.{reading_checked}
use Rattle.input.proofs.Answers.{input_put}
use Rattle.checker.proofs.answer_input.Goals as goal

pub returns : goal.returns
returns g c = input_put reading_checked c.scan_input-scanned.ensures c.put_scanned.ensures
