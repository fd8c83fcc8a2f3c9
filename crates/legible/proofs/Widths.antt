-- The widths of a page suffice: every number on it has room where it stands.
-- Assumes nothing.
use Prim.Native.Nat.{ℕ, suc, ◌≤◌, ◌<◌}
use native.Mathlib.Omega.{arith}
use Rattle.decimals.proofs.Decimals.{decimal_length}
use Rattle.counting.specs.Table.{Table, columns, levels_of, InRange}
use Rattle.page_text.specs.Pages.{page_count, HasRoom}
use Rattle.page_text.proofs.Counts.{pages_most}
use Rattle.legible.specs.Faithful.{RoomIn, Widths}

-- room in 4, and in 3
in_four : (most n : ℕ) → most < 10000 → n ≤ most → RoomIn 4 most n
in_four most n h k = (k, decimal_length 3 n (omega arith))

in_three : (most n : ℕ) → most < 1000 → n ≤ most → RoomIn 3 most n
in_three most n h k = (k, decimal_length 2 n (omega arith))

pub widths_suffice : (T : Table) (n : ℕ) → HasRoom T → n ≤ page_count T.runs (columns T) → Widths T n
unfolding InRange
widths_suffice T n room h =
    record {
      page_number = in_four 54 n (omega arith) (omega (arith, pages_most T.runs (columns T) room.runs_most room.columns_most));
      run_number = λ r k. in_four 511 r (omega arith) (omega (arith, room.runs_most));
      column_number = λ c k. in_three 128 (suc c) (omega arith) (omega (arith, room.columns_most));
      level_count = λ c k. in_three 64 (levels_of T c) (omega arith) (room.counts_most c k);
      level = λ r c k l. in_three 63 (T.cell r c) (omega arith) (omega (arith, room.in_range r c k l, room.counts_most c l));
    }
