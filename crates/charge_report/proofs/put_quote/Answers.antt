-- `charge_report::put_quote` meets its contract: the line of a refusal, or the number and the line feed.
use mathlib.Core.Path.{◌≡◌}
use mathlib.Core.Logic.{◌≢◌}
use native.Mathlib.Omega.{arith}
use borrow.Author.Tests.{ne_eqb}
use Rattle.buffers.proofs.Puts.{put_join}
use Rattle.decimals.proofs.Decimals.{decimal_word}
use Rattle.charge_report.specs.ChargeReport.{quote_line}
use Rattle.charge_report.proofs.put_quote.Goals as goal

pub returns-then-answer-ne0 : goal.returns-then-answer-ne0
unfolding quote_line
returns-then-answer-ne0 c =
    let other : c.args.answer ≢ 0 = λ e. omega (arith, e) in
    rw (ne_eqb _ 0 other) c.put_refusal.ensures

pub put_number-after_charge-requires : goal.put_number-after_charge-requires
put_number-after_charge-requires c = omega (arith, decimal_word c.args.charge c.ranges.charge.fits)

pub put_byte-requires : goal.put_byte-requires
put_byte-requires c =
    omega (arith, decimal_word c.args.charge c.ranges.charge.fits, c.put_number-after_charge.ensures.ends)

pub returns : goal.returns
unfolding quote_line
returns c =
    let none : c.args.answer ≡ 0 = omega arith in
    rw none (put_join c.put_number-after_charge.ensures c.put_byte.ensures)
