-- `page_printing::plan_and_put_pages` meets its contract: what `plan` promises of a filled order can be printed, and is what the outcome prints.
use Rattle.page_report.specs.PageReport.{sheet_pages}
use Rattle.filled_sheet.proofs.FilledSheet.{filled_well_formed, filled_put, refused_put}
use Rattle.page_printing.proofs.Agreement.{pages_agree}
use Rattle.page_printing.proofs.plan_and_put_pages.Goals as goal

pub put_asked-requires-clause-well_formed : goal.put_asked-requires-clause-well_formed
put_asked-requires-clause-well_formed c = filled_well_formed c.plan-answer.ensures c.in-Filled.is

pub returns-in-Filled : goal.returns-in-Filled
returns-in-Filled c =
    filled_put c.plan-answer.ensures (sheet_pages _) (λ A B alike. pages_agree alike _) c.in-Filled.is c.put_asked.ensures

pub returns-in-Refused : goal.returns-in-Refused
returns-in-Refused c =
    refused_put c.plan-answer.ensures (sheet_pages _) c.in-Refused.is c.put_refused.ensures
