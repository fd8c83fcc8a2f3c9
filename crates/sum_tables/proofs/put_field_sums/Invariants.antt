-- `put_field_sums` meets its contract. The invariant: the sums before the one in hand are put.
-- Assumes nothing.
use Rattle.sum_tables.proofs.Tables.{Putting}
use Rattle.sum_tables.proofs.put_field_sums.Given as goal

abbrev pub invariant-loop-q : goal.invariant-loop-q
invariant-loop-q l = Putting l.s l.q l.initial.sums l.sums
