-- `split_sheet::put_split_runs` meets its contract. The invariant: the first runs are put, up to `place`.
use mathlib.Core.List.{flat_map}
use Rattle.finite.specs.Lists.{from}
use Rattle.buffers.specs.Put.{Put}
use Rattle.ingredients.specs.Named.{table_in}
use Rattle.split_sheet.specs.Splitting.{split_run, run_in}
use Rattle.split_sheet.proofs.put_split_runs.Given as goal

abbrev pub invariant-loop-run : goal.invariant-loop-run
invariant-loop-run l =
    Put l.initial.buf 0 (flat_map (λ r. split_run l.c (table_in l.list l.named) (run_in l.table l.width r)) (from 0 l.run)) l.buf l.place
