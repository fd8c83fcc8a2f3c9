-- `decimals::put_signed` meets its contract: the sign and the digits of a negative number, or the digits alone.
use mathlib.Core.Path.{refl, ap}
use native.Mathlib.Omega.{arith}
use lib.ListN.{length}
use Rattle.buffers.proofs.Puts.{put_join}
use Rattle.decimals.proofs.Signed.{negative_digits, plain_digits}
use Rattle.decimals.proofs.put_signed.Goals as goal

-- A negative number.
pub put_byte-place-requires : goal.put_byte-place-requires
put_byte-place-requires c = omega (arith, ap length (negative_digits c.ranges.value refl c.if-value-lt0.true))

pub put_number-requires : goal.put_number-requires
put_number-requires c =
    omega (arith, ap length (negative_digits c.ranges.value c.magnitude.ensures c.if-value-lt0.true))

pub returns-then-value-lt0 : goal.returns-then-value-lt0
returns-then-value-lt0 c =
    rw (negative_digits c.ranges.value c.magnitude.ensures c.if-value-lt0.true)
    (put_join c.put_byte-place.ensures c.put_number.ensures)

pub put_number-requires-2 : goal.put_number-requires-2
put_number-requires-2 c =
    omega (arith, ap length (plain_digits c.ranges.value c.magnitude-2.ensures c.if-value-lt0.false))

pub returns : goal.returns
returns c =
    rw (plain_digits c.ranges.value c.magnitude-2.ensures c.if-value-lt0.false)
    c.put_number-2.ensures
