-- `right_aligned::put_in_three` meets its contract: the hundreds, the tens and the last digit.
use Rattle.buffers.proofs.Puts.{put_join}
use Rattle.right_aligned.proofs.Digits.{in_three}
use Rattle.right_aligned.proofs.put_in_three.Goals as goal

pub returns : goal.returns
returns c =
    rw (in_three _ c.requires.0)
    (put_join
    (put_join (rw c.leading_digit.ensures at c.put_byte-after_hundreds.ensures) (rw c.leading_digit-2.ensures at c.put_byte-after_tens.ensures))
    c.put_byte.ensures)
