-- `table_putting::put_runs` meets its contract. The invariant: the first runs are put, up to `place`.
use mathlib.Core.Path.{◌≡◌}
use native.Mathlib.Omega.{arith}
use Rattle.ingredients.specs.Named.{table_in}
use Rattle.layout.specs.Bytes.{runs_of}
use Rattle.layout.proofs.Bytes.{run_length}
use Rattle.layout.proofs.Rows.{pieces_none, pieces_next, pieces_room}
use Rattle.table_putting.proofs.put_runs.Goals as goal

pub loop-run-init : goal.loop-run-init
loop-run-init c = pieces_none _ _

pub put_run-place-requires-clause-table_in_bounds : goal.put_run-place-requires-clause-table_in_bounds
put_run-place-requires-clause-table_in_bounds c =
    let below = rw c.run_count-runs.ensures at c.loop-run-test.true in pieces_room _ _ _ _ (λ r h. run_length (table_in c.args.list.now c.args.table) r) c.loop-run.invariant below c.requires.table_in_bounds

pub loop-run-preserved : goal.loop-run-preserved
loop-run-preserved c = pieces_next _ c.loop-run.invariant c.put_run-place.ensures

pub returns : goal.returns
unfolding runs_of
returns c =
    let all : c.loop-run.run ≡ (table_in c.args.list.now c.args.table).runs = omega (arith, c.run_count-runs.ensures) in
    rw all at c.loop-run.invariant
