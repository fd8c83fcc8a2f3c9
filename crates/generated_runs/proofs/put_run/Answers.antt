-- `put_run` meets its contract: the run with a single digit is that digit's multiple, and any other the sum of two runs that are there.
-- Assumes nothing.
use native.Mathlib.Omega.{arith}
use Rattle.generated_runs.proofs.FieldLeads.{lead_single, lead_room, rest_room, sums_stand, run_summed}
use Rattle.generated_runs.proofs.put_run.Goals as goal

pub overflow_mul-lead : goal.overflow_mul-lead
overflow_mul-lead c =
    let pre = c.requires in
    let room = lead_room pre.field_stands pre.leads.0 pre.leads.1 pre.leads.2 pre.sums pre.runs_before (omega arith) in
    omega (arith, room, c.ranges.at)

pub overflow_mul-run : goal.overflow_mul-run
overflow_mul-run c =
    let pre = c.requires in
    let room = rest_room pre.field_stands pre.leads.0 pre.leads.1 pre.leads.2 pre.sums pre.runs_before (omega arith) in
    omega (arith, room, c.ranges.at)

pub put_sum-requires-clause-n_bound : goal.put_sum-requires-clause-n_bound
put_sum-requires-clause-n_bound c =
    let pre = c.requires in (
      lead_room pre.field_stands pre.leads.0 pre.leads.1 pre.leads.2 pre.sums pre.runs_before (omega arith),
      rest_room pre.field_stands pre.leads.0 pre.leads.1 pre.leads.2 pre.sums pre.runs_before (omega arith),
      pre.n_in_bounds,
    )

pub put_sum-requires-clause-sums_stand : goal.put_sum-requires-clause-sums_stand
put_sum-requires-clause-sums_stand c =
    let pre = c.requires in
    sums_stand pre.field_stands pre.leads.0 pre.leads.1 pre.leads.2 pre.sums pre.runs_before (omega arith)

pub returns-then-run-lead : goal.returns-then-run-lead
returns-then-run-lead c =
    let pre = c.requires in
    rw (c.if-run-lead.true, lead_single _ pre.field_stands.size pre.leads.0) c.put_multiple.ensures

pub returns-else-run-lead : goal.returns-else-run-lead
returns-else-run-lead c =
    let pre = c.requires in
    rw (← run_summed pre.field_stands pre.leads.0 pre.leads.1 pre.leads.2 pre.sums pre.runs_before (omega arith)) c.put_sum.ensures
