-- Tables that are put run by run and level by level; and the laws of bytes put one after the other, which stand in `pieces`.
-- Assumes nothing.
use mathlib.Core.Path.{◌≡◌, sym, ◌∙◌, ap}
use mathlib.Core.List.{List, [], ◌∷◌, flat_map}
use Prim.Native.Nat.{ℕ, ◌+◌, ◌<◌}
use lib.ListN.{length, take}
use Rattle.finite.specs.Lists.{from}
use Rattle.buffers.specs.Put.{Put}
use Rattle.buffers.proofs.Puts.{put_next, put_length}
use Rattle.counting.specs.Table.{Table, columns}
use Rattle.layout.specs.Bytes.{run_of, runs_of, zeros, Holds, Zeros}
use Rattle.layout.proofs.Bytes.{put_padded, run_length, run_at}
pub use Rattle.pieces.proofs.Lists.{map_flat_map}
pub use Rattle.pieces.proofs.Pieces.{values_none, values_next, values_room, pieces_none, pieces_next, pieces_room, put_numbered, put_room, put_all}

-- all pieces of a table
pub pieces_all : {a b : List ℕ} {i j : ℕ} (S : Table) (r : ℕ) → Put a i (flat_map (run_of S) (from 0 r)) b j → r ≡ S.runs → Put a i (runs_of S) b j
unfolding runs_of
pieces_all S r p e = rw e at p

-- the next level of a run
pub put_level : {a b c : List ℕ} {i j k : ℕ} (S : Table) (r n : ℕ) {byte : ℕ} → n < columns S → S.cell r n ≡ byte → Put a i (take n (run_of S r)) b j → Put b j (byte ∷ []) c k → Put a i (take (n + 1) (run_of S r)) c k
put_level S r n h e p q = put_next (run_of S r) n (rw run_length h) p (rw (← e, ← run_at S r n h) at q)

-- ---- a table put into clear buffers

pub put_holds : (S : Table) {table levels table' levels' : List ℕ} {e f : ℕ} → Zeros table → Zeros levels → Put table 0 (runs_of S) table' e → Put levels 0 S.levels levels' f → Holds S table' levels'
unfolding Zeros
put_holds S {table' = table'} {levels' = levels'} runs_clear levels_clear runs_put levels_put =
    record {
      runs_first = put_padded (length table') (runs_clear ∙ ap zeros (sym (put_length runs_put))) runs_put;
      levels_first = put_padded (length levels') (levels_clear ∙ ap zeros (sym (put_length levels_put))) levels_put;
    }
