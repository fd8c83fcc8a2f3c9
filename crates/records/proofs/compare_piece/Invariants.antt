-- `compare_piece` meets its contract. The invariant: the bytes from `byte` on take the present state where all of them take the first.
use mathlib.Core.Path.{◌≡◌}
use Prim.Native.Nat.{◌≤◌}
use lib.ListN.{length, drop}
use Rattle.record_texts.specs.Text.{after_text}
use Rattle.record_texts.specs.State.{progress_of}
use Rattle.records.proofs.compare_piece.Given as goal

abbrev pub invariant-loop-byte : goal.invariant-loop-byte
invariant-loop-byte g l =
    (length l.item ≡ length l.initial.item) × (length l.counts ≡ length l.initial.counts) × (l.state.held ≤ length l.initial.item)
    × (after_text (length l.initial.item) (progress_of l.initial.state l.initial.item l.initial.counts) l.piece
    ≡ after_text (length l.initial.item) (progress_of l.state l.item l.counts) (drop l.byte-index l.piece))
