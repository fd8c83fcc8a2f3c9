-- `put_runs` meets its contract. The invariant: the first runs are put, each as long as there are factors, and `lead` leads the run before.
-- Assumes nothing.
use mathlib.Core.Path.{sym, ◌∙◌}
use mathlib.Core.List.{flat_map}
use native.Mathlib.Nat.{le_antisymm, le_refl}
use native.Mathlib.Omega.{arith}
use Rattle.finite.specs.Lists.{from}
use Rattle.counting.specs.Table.{columns}
use Rattle.buffers.proofs.Puts.{put_none}
use Rattle.layout.specs.Bytes.{run_of}
use Rattle.layout.proofs.Bytes.{run_length}
use Rattle.layout.proofs.Rows.{pieces_room, pieces_next, pieces_all}
use Rattle.generated_runs.proofs.FieldSheet.{sheet_of, sheet_runs, sheet_columns, sheet_fits}
use Rattle.generated_runs.proofs.FieldLeads.{leads_none, runs_before}
use Rattle.generated_runs.proofs.put_runs.Goals as goal

pub loop-run-init : goal.loop-run-init
unfolding flat_map from
loop-run-init c =
    let k = c.requires.field_stands in
    ((leads_none _ k.size k.coordinates_least, le_refl 0, omega arith), put_none _ _ (omega arith))

pub put_run-place-requires-clause-runs_before : goal.put_run-place-requires-clause-runs_before
put_run-place-requires-clause-runs_before c = runs_before (sheet_of c.args.list.now c.args.g) c.loop-run.invariant.1

pub put_run-place-requires-clause-n_in_bounds : goal.put_run-place-requires-clause-n_in_bounds
put_run-place-requires-clause-n_in_bounds c =
    let pre = c.requires in
    let l = c.loop-run in
    let S = sheet_of c.args.list.now c.args.g in
    let room = pieces_room (run_of S) (columns S) l.run _ (λ r h. run_length S r) l.invariant.1 c.loop-run-test.true (rw pre.runs_value (omega (arith, sheet_fits pre.field_stands, pre.in_bounds))) in
    rw (sheet_columns pre.field_stands) at room

pub loop-run-preserved : goal.loop-run-preserved
loop-run-preserved c =
    let l = c.loop-run in
    let leads = c.next_leading-lead.ensures in
    ((leads.0, omega (arith, leads.1), omega (arith, leads.2)), pieces_next _ l.invariant.1 c.put_run-place.ensures)

pub returns : goal.returns
returns c =
    let pre = c.requires in
    let l = c.loop-run in
    pieces_all _ l.run l.invariant.1 (le_antisymm l.auto.run-end c.loop-run-test.false ∙ pre.runs_value ∙ sym (sheet_runs pre.field_stands))
