-- `charge_printing::plan_and_put_charge` meets its contract: what `plan` promises of a filled order can be charged, and costs what the outcome does.
use Rattle.charge_report.specs.ChargeReport.{sheet_charged}
use Rattle.filled_sheet.proofs.FilledSheet.{filled_well_formed, filled_put, refused_put}
use Rattle.charge_printing.proofs.Agreement.{charged_agree}
use Rattle.charge_printing.proofs.plan_and_put_charge.Goals as goal

pub put_charge-requires-clause-well_formed : goal.put_charge-requires-clause-well_formed
put_charge-requires-clause-well_formed c = filled_well_formed c.plan-answer.ensures c.in-Filled.is

pub returns-in-Filled : goal.returns-in-Filled
returns-in-Filled c =
    filled_put c.plan-answer.ensures (sheet_charged _) (λ A B alike. charged_agree alike _) c.in-Filled.is c.put_charge.ensures

pub returns-in-Refused : goal.returns-in-Refused
returns-in-Refused c =
    refused_put c.plan-answer.ensures (sheet_charged _) c.in-Refused.is c.put_refused.ensures
