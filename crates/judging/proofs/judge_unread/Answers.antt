-- `judge_unread` meets its contract: the line of the refusal is compared with what is stored.
use Rattle.buffers.proofs.Puts.{put_part, put_front}
use Rattle.record_texts.proofs.Judging.{judged_unread}
use Rattle.judging.proofs.judge_unread.Goals as goal

pub slice_bounds-is_stored-end : goal.slice_bounds-is_stored-end
slice_bounds-is_stored-end c = put_part c.put_refused-end.ensures

pub returns : goal.returns
returns c = judged_unread _ _ (put_front c.put_refused-end.ensures) c.is_stored.ensures
