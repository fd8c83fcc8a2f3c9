-- `compare_all` meets its contract, piece by piece.
use mathlib.Core.Path.{◌≡◌}
use Prim.Native.Nat.{◌≤◌}
use lib.ListN.{length}
use Rattle.record_texts.specs.State.{progress_of}
use Rattle.record_texts.proofs.Texts.{Underway}
use Rattle.records.proofs.compare_all.Given as goal

abbrev pub invariant-loop : goal.invariant-loop
invariant-loop g l =
    (length l.item ≡ 262144) × (length l.counts ≡ 15) × (l.state.held ≤ 262144) × Underway (progress_of l.state l.item l.counts)
