-- `carrying::carry_or_clear` meets its contract: what the steps leave, and zeros where one refuses.
use borrow.Author.Rules.{rules}
use mir.Facts.{to_z-of_z}
use mir.Syntax.{w64}
use mir.Val.{SFits}
use Rattle.promise.proofs.Promises.{settled_filled, settled_refused}
use Rattle.carrying.proofs.carry_or_clear.Goals as goal

pub returns-in-Filled-clause-settled : goal.returns-in-Filled-clause-settled
returns-in-Filled-clause-settled c =
    let filled = c.in-Filled in
    let word : SFits w64 filled.spare = search rules in settled_filled _ _ _ _ _ filled.is (to_z-of_z word) c.carry_out.ensures.left

pub returns-in-Filled-clause-zeros_2 : goal.returns-in-Filled-clause-zeros_2
returns-in-Filled-clause-zeros_2 c = c.carry_out.ensures.zeros_2

pub returns-in-Refused-clause-settled : goal.returns-in-Refused-clause-settled
returns-in-Refused-clause-settled c = settled_refused _ _ _ _ _ _ c.in-Refused.is c.carry_out.ensures.left c.clear.ensures c.clear-in-Refused.ensures

pub returns-in-Refused-clause-zeros_2 : goal.returns-in-Refused-clause-zeros_2
returns-in-Refused-clause-zeros_2 c = c.carry_out.ensures.zeros_2
