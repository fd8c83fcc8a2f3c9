-- `summed_run::put_looked_up` meets its contract. The invariant: the sums for the entries before the one in hand are put, up to `place`.
use mathlib.Core.List.{map}
use lib.ListN.{get_or}
use Rattle.sum_bytes.proofs.Pieces.{Front}
use Rattle.summed_run.proofs.put_looked_up.Given as goal

abbrev pub invariant-loop-b : goal.invariant-loop-b
invariant-loop-b l = Front (map (λ b. get_or l.sums b 0) l.row) l.initial.buf l.at l.b-index l.buf l.place
