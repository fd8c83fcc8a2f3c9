-- `summed_sheet::put_summed_levels` meets its contract. The invariant: the level counts that those before the one in hand give are put.
use lib.ListN.{get_or, replicate}
use Rattle.sum_bytes.proofs.Pieces.{Pieces}
use Rattle.summed_sheet.proofs.put_summed_levels.Given as goal

abbrev pub invariant-loop-s : goal.invariant-loop-s
invariant-loop-s l = Pieces (λ s. replicate (get_or l.widths s 0) s) l.levels l.initial.buf l.at l.s-index l.buf l.place
