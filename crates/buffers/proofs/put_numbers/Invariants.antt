-- `buffers::put_numbers` meets its contract. The invariant: the numbers before this one are put, up to `place`.
use lib.ListN.{take}
use Rattle.buffers.specs.Put.{Put}
use Rattle.buffers.proofs.put_numbers.Given as goal

abbrev pub invariant-loop-number : goal.invariant-loop-number
invariant-loop-number l = Put l.initial.buf l.at (take l.number-index l.numbers) l.buf l.place
