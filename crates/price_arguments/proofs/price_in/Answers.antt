-- `price_arguments::price_in` meets its contract. The invariant: the bytes so far are digits, and value is the number that they write, which is not too large.
use native.Mathlib.Omega.{arith}
use Rattle.price_arguments.proofs.Prices.{read_none, read_more}
use Rattle.price_arguments.proofs.price_in.Goals as goal

pub loop-byte-init : goal.loop-byte-init
loop-byte-init c = read_none _

pub loop-byte-preserved : goal.loop-byte-preserved
loop-byte-preserved c = read_more _ _ (omega arith) c.loop-byte.invariant (omega arith) (omega arith) (omega arith)
