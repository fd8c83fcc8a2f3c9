-- `price_arguments::price_in` meets its contract. The invariant: the bytes so far are digits, and value is the number that they write, which is not too large.
use Rattle.price_arguments.proofs.Prices.{ReadTo}
use Rattle.price_arguments.proofs.price_in.Given as goal

abbrev pub invariant-loop-byte : goal.invariant-loop-byte
invariant-loop-byte l = ReadTo l.argument l.byte-index l.value
