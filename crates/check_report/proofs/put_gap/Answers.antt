-- `put_gap` meets its contract: the word, the signed number, in at most 20 bytes, and the line feed.
-- Assumes nothing.
use native.Mathlib.Omega.{arith}
use mir.Facts.{Fits-of_z, sfits_to_z, to_z-of_z}
use Rattle.buffers.proofs.Puts.{put_join}
use Rattle.decimals.proofs.Signed.{signed_word}
use Rattle.check_report.specs.CheckReport.{gap_line}
use Rattle.check_report.proofs.put_gap.Goals as goal

pub put_signed-after_gap-requires : goal.put_signed-after_gap-requires
put_signed-after_gap-requires c =
    let word = sfits_to_z (Fits-of_z c.ranges.gap) in
    omega (arith, signed_word _ word)

pub put_byte-requires : goal.put_byte-requires
put_byte-requires c =
    let word = sfits_to_z (Fits-of_z c.ranges.gap) in
    omega (arith, signed_word _ word)

pub returns : goal.returns
unfolding gap_line
returns c =
    rw (← to_z-of_z c.ranges.gap)
    (put_join (put_join c.put_bytes-after_word.ensures c.put_signed-after_gap.ensures) c.put_byte.ensures)
