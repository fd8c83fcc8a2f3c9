-- `put_runs` meets its contract. The invariant: the first runs are put, each as long as there are factors, and `lead` leads the run before.
-- Assumes nothing.
use mathlib.Core.List.{flat_map}
use Prim.Native.Nat.{◌+◌, ◌≤◌}
use Rattle.finite.specs.Lists.{from}
use Rattle.buffers.specs.Put.{Put}
use Rattle.layout.specs.Bytes.{run_of}
use Rattle.generated_runs.specs.LevelSums.{Leads}
use Rattle.generated_runs.proofs.FieldSheet.{sheet_of}
use Rattle.generated_runs.proofs.put_runs.Given as goal

abbrev pub invariant-loop-run : goal.invariant-loop-run
invariant-loop-run l =
    (Leads l.g l.lead × (l.lead.run ≤ l.run) × (l.run ≤ l.lead.run + l.lead.span))
    × Put l.initial.table 0 (flat_map (run_of (sheet_of l.list l.g)) (from 0 l.run)) l.table l.place
