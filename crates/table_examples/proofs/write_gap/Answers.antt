-- `table_examples::write_gap` is safe: a signed number has at most 20 bytes.
use native.Mathlib.Omega.{arith}
use mir.Facts.{Fits-of_z, sfits_to_z}
use Rattle.decimals.proofs.Signed.{signed_word}
use Rattle.table_examples.proofs.write_gap.Goals as goal

pub put_signed-end-requires : goal.put_signed-end-requires
put_signed-end-requires g c =
    let word = sfits_to_z (Fits-of_z c.ranges.gap) in
    omega (arith, signed_word _ word)
