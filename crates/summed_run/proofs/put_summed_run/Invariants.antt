-- `summed_run::put_summed_run` meets its contract. The invariant: the sums of the first `j` columns are put, up to `place`.
use lib.ListN.{length}
use Rattle.finite.specs.Lists.{from}
use Rattle.sum_bytes.specs.Summing.{summed_cells}
use Rattle.sum_bytes.proofs.Pieces.{Pieces}
use Rattle.summed_run.proofs.put_summed_run.Given as goal

abbrev pub invariant-loop-j : goal.invariant-loop-j
invariant-loop-j l =
    Pieces (summed_cells l.list l.entries l.widths l.row l.levels l.cells) (from 0 (length l.levels)) l.initial.buf l.at l.j l.buf l.place
