-- `summed_run::put_modulo_sums` meets its contract. The invariant: the sums with the entries before the one in hand are put, up to `place`.
use mathlib.Core.List.{map}
use Prim.Native.Nat.{◌+◌, ◌%◌}
use Rattle.sum_bytes.proofs.Pieces.{Front}
use Rattle.summed_run.proofs.put_modulo_sums.Given as goal

abbrev pub invariant-loop-b : goal.invariant-loop-b
invariant-loop-b l = Front (map (λ b. (l.level + b) % l.p) l.row) l.initial.buf l.at l.b-index l.buf l.place
