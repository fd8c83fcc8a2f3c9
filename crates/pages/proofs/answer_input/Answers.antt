-- `pages::answer_input` meets its contract: what was put for the text that was scanned is what is printed for it.
use Rattle.page_report.specs.PageReport.{reading_pages}
use Rattle.input.proofs.Answers.{input_put}
use Rattle.pages.proofs.answer_input.Goals as goal

pub returns : goal.returns
returns g c = input_put (reading_pages c.args.asked) c.scan_input-scanned.ensures c.put_scanned.ensures
