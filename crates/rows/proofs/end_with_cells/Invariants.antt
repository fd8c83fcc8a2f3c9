-- `rows::end_with_cells` meets its contract. The invariant: the numbers before this one are put, up to `place`, each in at most 4 bytes.
use Rattle.rows.proofs.Rows.{First}
use Rattle.rows.proofs.end_with_cells.Given as goal

abbrev pub invariant-loop-cell : goal.invariant-loop-cell
invariant-loop-cell l = First 4 l.cells l.initial.buf l.at l.cell-index l.buf l.place
