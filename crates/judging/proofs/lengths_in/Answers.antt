-- `lengths_in` meets its contract: the three lengths.
use Rattle.record_texts.proofs.Judging.{lengths_three}
use Rattle.judging.proofs.lengths_in.Goals as goal

pub returns : goal.returns
returns c = lengths_three _ c.long_number_at.ensures.value c.long_number_at-2.ensures.value c.long_number_at-3.ensures.value
