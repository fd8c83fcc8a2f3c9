-- `lines::put_refusal` meets its contract: the word and the end of the line are put one after the other.
use Rattle.buffers.proofs.Puts.{put_join}
use Rattle.lines.specs.Lines.{refused_line}
use Rattle.lines.proofs.put_refusal.Goals as goal

pub returns : goal.returns
unfolding refused_line
returns c = put_join c.put_bytes-after_word.ensures c.end_with_numbers.ensures
