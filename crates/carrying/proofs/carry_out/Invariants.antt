-- `carrying::carry_out` meets its contract. The invariant: the sheet in hand is in the buffers, and from it the steps that are left come
-- to what all steps come to, and end with the sheet with which all steps end.
use Rattle.sheet_in_hand.proofs.Carrying.{Underway}
use Rattle.carrying.proofs.carry_out.Given as goal

abbrev pub invariant-loop-number : goal.invariant-loop-number
invariant-loop-number l = Underway l.list l.number l.size l.table l.levels l.scratch
