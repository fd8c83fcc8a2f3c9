-- `lines::put_header` meets its contract: three numbers, each of at most 20 bytes, two spaces and the line feed.
use native.Mathlib.Omega.{arith}
use mir.Facts.{Fits-of_z, sfits_to_z, to_z-of_z}
use Rattle.buffers.proofs.Puts.{put_join}
use Rattle.decimals.proofs.Decimals.{decimal_word}
use Rattle.decimals.proofs.Signed.{signed_word}
use Rattle.lines.specs.Lines.{header}
use Rattle.lines.proofs.put_header.Goals as goal

pub put_number-after_runs-requires : goal.put_number-after_runs-requires
put_number-after_runs-requires c = omega (arith, decimal_word _ c.ranges.runs.fits)

pub put_spaced-after_columns-requires : goal.put_spaced-after_columns-requires
put_spaced-after_columns-requires c =
    omega (arith, decimal_word _ c.ranges.runs.fits, decimal_word _ c.ranges.columns.fits)

pub put_byte-after_space-requires : goal.put_byte-after_space-requires
put_byte-after_space-requires c =
    omega (arith, decimal_word _ c.ranges.runs.fits, decimal_word _ c.ranges.columns.fits)

pub put_signed-after_spare-requires : goal.put_signed-after_spare-requires
put_signed-after_spare-requires c =
    let word = sfits_to_z (Fits-of_z c.ranges.spare) in
    omega (arith, decimal_word _ c.ranges.runs.fits, decimal_word _ c.ranges.columns.fits, signed_word _ word)

pub put_byte-requires : goal.put_byte-requires
put_byte-requires c =
    let word = sfits_to_z (Fits-of_z c.ranges.spare) in
    omega (arith, decimal_word _ c.ranges.runs.fits, decimal_word _ c.ranges.columns.fits, signed_word _ word)

pub returns : goal.returns
unfolding header
returns c =
    let numbers = put_join c.put_number-after_runs.ensures c.put_spaced-after_columns.ensures in
    let spare = put_join c.put_byte-after_space.ensures c.put_signed-after_spare.ensures in
    rw (← to_z-of_z c.ranges.spare) (put_join (put_join numbers spare) c.put_byte.ensures)
