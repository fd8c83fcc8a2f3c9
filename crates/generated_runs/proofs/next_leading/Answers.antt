-- `next_leading` meets its contract: the run is that of the digit or the next one, or the first of the row before.
-- Assumes nothing.
use native.Mathlib.Nat.{le_refl, le_antisymm}
use native.Mathlib.Omega.{arith}
use Rattle.generated_runs.proofs.FieldLeads.{leads_next, leads_wrap, some_runs, some_span}
use Rattle.generated_runs.proofs.next_leading.Goals as goal

pub returns-then-before-g : goal.returns-then-before-g
returns-then-before-g c =
    let pre = c.requires in
    let after = c.if-run-before.false in
    let span = some_span _ pre.t.0 pre.leads.0 in
    (leads_next _ pre.t.0 pre.leads.0 (le_antisymm pre.leads.2 after) c.if-before-g.true, le_refl _, omega arith)

pub returns : goal.returns
returns c =
    let pre = c.requires in
    let after = c.if-run-before.false in
    let next = le_antisymm pre.leads.2 after in
    let some = some_runs _ pre.t.0 pre.leads.0 next c.if-before-g.false in
    (leads_wrap _ pre.t.0 pre.leads.0 next c.if-before-g.false pre.run_bound, le_refl _, omega arith)
