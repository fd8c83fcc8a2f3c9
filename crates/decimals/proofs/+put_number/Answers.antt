-- The cycle of calls {put_number} meets its contract: one digit, or the digits of the tenth and then the last one.
use native.Mathlib.Omega.{arith}
use borrow.Author.Rules.{rules}
use Rattle.buffers.proofs.Puts.{put_join}
use Rattle.decimals.proofs.Decimals.{decimal_one, decimal_more, length_one, length_more}
use Rattle.decimals.proofs.+put_number.Goals as goal

-- One digit.
pub put_byte-requires : goal.put_byte-requires
put_byte-requires t c = omega (arith, length_one _ c.if-value-lt10.true, c.requires)

pub returns-then-value-lt10 : goal.returns-then-value-lt10
returns-then-value-lt10 t c = rw (decimal_one _ c.if-value-lt10.true) c.put_byte.ensures

-- More digits.
pub put_number-place-requires : goal.put_number-place-requires
put_number-place-requires t c = (search rules, omega (arith, length_more _ c.if-value-lt10.false, c.requires))

pub put_byte-requires-2 : goal.put_byte-requires-2
put_byte-requires-2 t c =
    omega (arith, length_more _ c.if-value-lt10.false, c.requires, c.put_number-place.ensures.ends, c.put_number-place.ensures.fits, c.put_number-place.auto.buf)

pub returns : goal.returns
returns t c = rw (decimal_more _ c.if-value-lt10.false) (put_join c.put_number-place.ensures c.put_byte-2.ensures)
