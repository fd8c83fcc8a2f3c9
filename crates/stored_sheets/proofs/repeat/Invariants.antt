-- `stored_sheets::repeat` meets its contract. The invariant: the bytes before i are filled.
use Rattle.stored_sheets.proofs.Repeating.{Repeating}
use Rattle.stored_sheets.proofs.repeat.Given as goal

abbrev pub invariant-loop-i : goal.invariant-loop-i
invariant-loop-i l = Repeating l.list l.start l.count l.initial.bytes l.bytes l.i
