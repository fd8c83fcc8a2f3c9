-- `printed_table::put_runs` meets its contract. The invariant: the first `i` runs are put, up to `place`.
use Rattle.printed_table.proofs.Tables.{RunsPut}
use Rattle.printed_table.proofs.put_runs.Given as goal

abbrev pub invariant-loop-i : goal.invariant-loop-i
invariant-loop-i l = RunsPut l.columns l.cells l.initial.buf l.at l.i l.buf l.place
