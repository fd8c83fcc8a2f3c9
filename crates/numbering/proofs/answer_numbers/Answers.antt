-- `answer_numbers` meets its contract, case by case.
use mathlib.Core.Path.{sym, ◌∙◌, ap}
use Rattle.sheets.specs.Refusals.{answer_numbers}
use Rattle.numbering.proofs.answer_numbers.Goals as goal

pub returns-in-Filled : goal.returns-in-Filled
unfolding answer_numbers
returns-in-Filled c = sym (ap answer_numbers c.in-Filled.is)

pub returns-in-Refused : goal.returns-in-Refused
unfolding answer_numbers
returns-in-Refused c = c.numbers_of.ensures ∙ sym (ap answer_numbers c.in-Refused.is)
