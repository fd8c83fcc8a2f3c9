-- `number_of` meets its contract, for a table and for a refusal.
use Rattle.record_texts.proofs.Judging.{filled_number, refused_number}
use Rattle.judging.proofs.number_of.Goals as goal

pub returns-in-Filled : goal.returns-in-Filled
returns-in-Filled c = filled_number c.in-Filled.is

pub returns-in-Refused : goal.returns-in-Refused
returns-in-Refused c = refused_number _ c.in-Refused.is c.numbers_of-numbers.ensures
