-- `buffers::put_numbers` meets its contract. The invariant: the numbers before this one are put, up to `place`.
use native.Mathlib.Omega.{arith}
use Rattle.buffers.specs.Put.{Bytes}
use Rattle.buffers.proofs.put_numbers.Goals as goal

pub overflow_cast-number : goal.overflow_cast-number
unfolding Bytes
overflow_cast-number c = omega (arith, c.requires.bytes c.loop-number.number-index)
