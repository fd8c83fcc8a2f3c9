-- `charge_report::put_charge` meets its contract: what is answered, and its line.
use Rattle.charge_report.specs.ChargeReport.{sheet_charged}
use Rattle.charge_report.proofs.put_charge.Goals as goal

pub returns : goal.returns
unfolding sheet_charged
returns c = rw (← c.quote_by-quote.ensures) c.put_quote.ensures
