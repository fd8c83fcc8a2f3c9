-- `answer_spare` meets its contract, case by case.
use borrow.Author.Rules.{rules}
use mathlib.Core.Path.{sym, ◌∙◌, ap}
use mir.Facts.{to_z-of_z}
use mir.Syntax.{w64}
use mir.Val.{SFits}
use Rattle.sheets.specs.Refusals.{answer_spare}
use Rattle.numbering.proofs.answer_spare.Goals as goal

pub returns-in-Filled : goal.returns-in-Filled
unfolding answer_spare
returns-in-Filled c =
    let word : SFits w64 c.in-Filled.spare = search rules in
    to_z-of_z word ∙ sym (ap answer_spare c.in-Filled.is)

pub returns-in-Refused : goal.returns-in-Refused
unfolding answer_spare
returns-in-Refused c = sym (ap answer_spare c.in-Refused.is)
