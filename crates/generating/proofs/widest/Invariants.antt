-- `widest` meets its contract. The invariant: no factor so far has more columns, and so many make at most 64 levels.
-- Assumes nothing.
use Prim.Native.Nat.{ℕ, ◌^◌, ◌≤◌, ◌<◌}
use Rattle.generated_runs.proofs.FieldSheet.{width_at}
use Rattle.generating.proofs.widest.Given as goal

abbrev pub invariant-loop-width : goal.invariant-loop-width
invariant-loop-width l =
    ((i : ℕ) → i < l.width-index → width_at l.list l.fn.g i ≤ l.most) × (l.fn.g.s ^ l.most ≤ 64)
