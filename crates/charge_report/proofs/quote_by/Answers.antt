-- `charge_report::quote_by` meets its contract: fewer than two numbers are no price list, and of others `charge_sheet` decides.
use mathlib.Core.Path.{sym}
use native.Mathlib.Omega.{arith}
use borrow.Author.Rules.{rules}
use Rattle.charge_report.proofs.Quotes.{quote_count, quote_same}
use Rattle.charge_report.proofs.quote_by.Goals as goal

pub returns-then-numbers-lt2 : goal.returns-then-numbers-lt2
returns-then-numbers-lt2 c = sym (quote_count _ _ (λ e. omega (arith, e, c.if-numbers-lt2.true)))

pub returns : goal.returns
returns c =
    quote_same c.requires c.args.numbers.now (search rules) c.charge_sheet.result c.charge_sheet.ensures
