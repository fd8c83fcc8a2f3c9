use mathlib.Core.Path.{◌≡◌, sym, ◌∙◌}
use native.Mathlib.Omega.{arith}
use borrow.Author.Rules.{rules}
use Rattle.price_arguments.proofs.Prices.{listed_more, listed_list, many_listed}
use Rattle.pricer.proofs.prices_given.Goals as goal

pub returns-in-Some-None : goal.returns-in-Some-None
returns-in-Some-None g c = (omega arith, many_listed)

pub returns-in-None : goal.returns-in-None
returns-in-None g c = (omega arith, listed_list c.loop-i.invariant.1 (omega arith))

pub loop-i-preserved : goal.loop-i-preserved
loop-i-preserved g c =
    let on = c.loop-i.invariant in
    let said = c.in-Some-Some.ensures in
    (search rules, listed_more said.0 on.1 (search rules) (sym said.1 ∙ c.in-Some-Some.field-0-is))

pub returns-in-Some : goal.returns-in-Some
returns-in-Some g c = (omega arith, many_listed)

pub returns-in-None-price_at : goal.returns-in-None-price_at
returns-in-None-price_at g c =
    let all : c.loop-i.i ≡ 130 = omega arith in
    let listed = rw all at (listed_list c.loop-i.invariant.1 (omega arith)) in (omega arith, listed)
