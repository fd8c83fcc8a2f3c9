-- `put_sum` meets its contract. The invariant: the first sums are put, and what stands before them is as it was.
-- Assumes nothing.
use mathlib.Core.List.{List, map}
use Prim.Native.Nat.{ℕ, ◌+◌, ◌*◌}
use lib.ListN.{get_or}
use Rattle.finite.specs.Lists.{from}
use Rattle.buffers.specs.Put.{Put}
use Rattle.generated_runs.proofs.put_sum.Given as goal

abbrev sum_at : ℕ → List ℕ → List ℕ → ℕ → ℕ → ℕ → ℕ
sum_at most sums table one other i = get_or sums (get_or table (one + i) 0 * most + get_or table (other + i) 0) 0

abbrev pub invariant-loop-i : goal.invariant-loop-i
invariant-loop-i l =
    Put l.initial.table l.at (map (sum_at l.most l.sums l.initial.table l.one l.other) (from 0 l.i)) l.table l.place
