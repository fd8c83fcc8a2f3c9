-- `report::put_refused` meets its contract: the numbers are those of `numbered`.
use Rattle.report.proofs.Answers.{put_refusal_line}
use Rattle.report.proofs.put_refused.Goals as goal

pub returns : goal.returns
returns c = put_refusal_line _ c.numbers_of.ensures c.put_refusal.ensures
