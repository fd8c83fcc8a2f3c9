-- `buffers::put_bytes` meets its contract. The invariant: the bytes before this one are put, up to `place`.
use lib.ListN.{take}
use Rattle.buffers.specs.Put.{Put}
use Rattle.buffers.proofs.put_bytes.Given as goal

abbrev pub invariant-loop-byte : goal.invariant-loop-byte
invariant-loop-byte l = Put l.initial.buf l.at (take l.byte-index l.bytes) l.buf l.place
