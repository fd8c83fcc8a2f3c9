-- `right_aligned::put_in_four` meets its contract: a number below 1,000 has room in 3, so that a blank comes first.
use Rattle.buffers.proofs.Puts.{put_join}
use Rattle.decimals.proofs.Decimals.{decimal_length}
use Rattle.page_text.proofs.Aligned.{aligned_wider}
use Rattle.right_aligned.proofs.put_in_four.Goals as goal

pub returns : goal.returns
returns c =
    rw (aligned_wider 3 _ (decimal_length 2 _ c.requires.0)) (put_join c.put_byte-after_blank.ensures c.put_in_three.ensures)
