-- `pricer::answer_input` meets its contract: what was put for the text that was scanned is what is printed for it.
use Rattle.charge_report.specs.ChargeReport.{reading_charged}
use Rattle.input.proofs.Answers.{input_put}
use Rattle.pricer.proofs.answer_input.Goals as goal

pub returns : goal.returns
returns g c = input_put (reading_charged c.args.numbers.now) c.scan_input-scanned.ensures c.put_scanned.ensures
