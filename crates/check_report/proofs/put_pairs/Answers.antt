-- `put_pairs` meets its contract: the word, the number, in at most 20 bytes, and the line feed.
-- Assumes nothing.
use native.Mathlib.Omega.{arith}
use Rattle.buffers.proofs.Puts.{put_join}
use Rattle.decimals.proofs.Decimals.{decimal_word}
use Rattle.check_report.specs.CheckReport.{pairs_line}
use Rattle.check_report.proofs.put_pairs.Goals as goal

pub put_number-after_pairs-requires : goal.put_number-after_pairs-requires
put_number-after_pairs-requires c =
    omega (arith, decimal_word _ c.ranges.pairs.fits)

pub put_byte-requires : goal.put_byte-requires
put_byte-requires c =
    omega (arith, decimal_word _ c.ranges.pairs.fits)

pub returns : goal.returns
unfolding pairs_line
returns c =
    put_join (put_join c.put_bytes-after_word.ensures c.put_number-after_pairs.ensures) c.put_byte.ensures
