-- `summed_sheet::put_runs` meets its contract. The invariant: the first `r` runs are put, up to `place`.
use Prim.Native.Nat.{◌*◌}
use Rattle.finite.specs.Lists.{from}
use Rattle.ingredients.specs.Named.{table_in}
use Rattle.sum_bytes.specs.Summing.{built_run}
use Rattle.sum_bytes.proofs.Pieces.{Pieces}
use Rattle.summed_sheet.proofs.put_runs.Given as goal

abbrev pub invariant-loop-r : goal.invariant-loop-r
invariant-loop-r l =
    Pieces (built_run l.list l.entries l.widths l.rows (table_in l.list l.k) l.table l.levels) (from 0 (l.runs * l.rows)) l.initial.buf 0 l.r l.buf l.place
