-- `split_sheet::put_split_runs` meets its contract. The invariant: the first runs are put, up to `place`.
use mathlib.Core.Path.{◌≡◌}
use native.Mathlib.Omega.{arith}
use Rattle.split_sheet.specs.Splitting.{split_runs}
use Rattle.layout.proofs.Rows.{pieces_none, pieces_next, pieces_room}
use Rattle.ingredients.specs.Named.{table_in}
use Rattle.split_sheet.proofs.Bytes.{run_part, run_in_length, split_run_length}
use Rattle.split_sheet.proofs.put_split_runs.Goals as goal

pub loop-run-init : goal.loop-run-init
loop-run-init c = pieces_none _ _

pub put_split_run-place-requires-clause-named_in_bounds : goal.put_split_run-place-requires-clause-named_in_bounds
put_split_run-place-requires-clause-named_in_bounds c =
    let table = c.args.table.now in
    let runs = c.args.size.runs in
    let width = c.args.size.columns in
    let T = table_in c.args.list.now c.args.named in
    let used = c.requires.c_lt_columns.1 in
    let below = c.loop-run-test.true in
    rw (run_part table width c.loop-run.run, run_in_length table runs width c.loop-run.run used below)
    (pieces_room _ _ _ _ (λ r h. split_run_length table runs width r used h c.args.c T c.requires.c_lt_columns.0) c.loop-run.invariant below c.requires.named_in_bounds)

pub loop-run-preserved : goal.loop-run-preserved
loop-run-preserved c =
    pieces_next _ c.loop-run.invariant
    (rw (run_part c.args.table.now c.args.size.columns c.loop-run.run) at c.put_split_run-place.ensures)

pub returns : goal.returns
unfolding split_runs
returns c = let all : c.loop-run.run ≡ c.args.size.runs = omega arith in rw all at c.loop-run.invariant
