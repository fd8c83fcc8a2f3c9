-- `page_putting::put_run_lines` meets its contract. The invariant: the first `k` lines are put, up to `place`.
use mathlib.Core.Path.{◌≡◌}
use mathlib.Core.List.{flat_map}
use Prim.Native.Nat.{◌+◌, ◌*◌}
use Rattle.finite.specs.Lists.{from}
use Rattle.buffers.specs.Put.{Put}
use Rattle.page_putting.specs.Part.{part_line}
use Rattle.page_putting.proofs.put_run_lines.Given as goal

abbrev pub invariant-loop-k : goal.invariant-loop-k
invariant-loop-k l =
    (l.place ≡ l.at + 80 * l.k) × Put l.initial.buf l.at (flat_map (λ i. part_line l.runs l.columns l.table l.part (l.part.run + i)) (from 0 l.k)) l.buf l.place
