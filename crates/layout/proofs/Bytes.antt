-- Laws of the bytes that hold a table; and those of lists and padded buffers that stand in `pieces`, for the crates that have them from here.
-- Assumes nothing.
use mathlib.Core.Path.{◌≡◌, sym, ◌∙◌, ap}
use mathlib.Core.List.{List, map, flat_map}
use Prim.Native.Nat.{ℕ, ◌+◌, ◌*◌, ◌<◌}
use native.Mathlib.Nat.{zero-add}
use lib.ListN.{length, get_or, length-map}
use Rattle.finite.specs.Lists.{from}
use Rattle.finite.proofs.Lists.{length_from}
use Rattle.counting.specs.Table.{Table, columns}
use Rattle.step_tables.specs.Sheet.{from_sources}
use Rattle.step_tables.proofs.Lists.{map_get_d, get_d_map}
use Rattle.layout.specs.Bytes.{run_of, runs_of}
pub use Rattle.pieces.proofs.Lists.{drop_replicate, from_next, flat_map_append, flat_map_suc, flat_map_next, map_below, flat_map_same, pieces_length, pieces_at, get_d_from}
pub use Rattle.pieces.proofs.Padded.{put_padded, zeros_all}

pub run_sources : {A : Type 0} (N : ℕ) (levels : A → ℕ) (value : ℕ → A → ℕ) (sources : List A) (r : ℕ)
    → run_of (from_sources N levels value sources) r ≡ map (value r) sources
unfolding run_of from_sources
run_sources N levels value sources r =
    ap (λ (m : ℕ). map (λ c. get_or (map (value r) sources) c 0) (from 0 m)) (length-map sources levels ∙ sym (length-map sources (value r)))
    ∙ map_get_d (map (value r) sources) 0

pub runs_sources : {A : Type 0} (N : ℕ) (levels : A → ℕ) (value : ℕ → A → ℕ) (sources : List A)
    → runs_of (from_sources N levels value sources) ≡ flat_map (λ r. map (value r) sources) (from 0 N)
unfolding runs_of from_sources
runs_sources N levels value sources =
    flat_map_same (run_of (from_sources N levels value sources)) (λ r. map (value r) sources) N (λ r h. run_sources N levels value sources r)

pub run_length : (S : Table) (r : ℕ) → length (run_of S r) ≡ columns S
unfolding run_of
run_length S r = length-map (from 0 (columns S)) (S.cell r) ∙ length_from 0 (columns S)

pub run_at : (S : Table) (r c : ℕ) → c < columns S → get_or (run_of S r) c 0 ≡ S.cell r c
unfolding run_of
run_at S r c k =
    get_d_map (S.cell r) (from 0 (columns S)) c 0 0 (rw (length_from 0 (columns S)) k)
    ∙ ap (S.cell r) (get_d_from 0 (columns S) c k ∙ zero-add c)

pub runs_length : (S : Table) → length (runs_of S) ≡ S.runs * columns S
unfolding runs_of
runs_length S = pieces_length (run_of S) (columns S) (run_length S) S.runs

pub runs_cell : (S : Table) (r c : ℕ) → r < S.runs → c < columns S → get_or (runs_of S) (r * columns S + c) 0 ≡ S.cell r c
unfolding runs_of
runs_cell S r c h k = pieces_at (run_of S) (columns S) (run_length S) 0 S.runs r c h k ∙ run_at S r c k
