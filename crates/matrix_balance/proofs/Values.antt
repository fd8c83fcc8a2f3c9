-- The values of one column of a matrix, where they stand in the list: row by row, a row's length apart, each below p.
-- Assumes nothing.
use mathlib.Core.Path.{◌≡◌, sym, ◌∙◌, ap}
use mathlib.Core.List.{List}
use Prim.Native.Nat.{ℕ, ◌+◌, ◌*◌, ◌≤◌, ◌<◌}
use native.Mathlib.Nat.{le_refl, add_assoc}
use native.Mathlib.Omega.{arith}
use lib.ListN.{length, get_or}
use lib.Seq.{get_or-take, get_or-drop}
use Rattle.finite.proofs.Fits.{place_below}
use Rattle.counting.specs.Matrix.{matrix_of}
use Rattle.counting.specs.Verdict.{deviation}
use Rattle.ingredients.specs.Standing.{MatrixStands}
use Rattle.step_tables.specs.Cross.{value_times}
use Rattle.sum_bytes.specs.Summing.{placed_matrix}
use Rattle.sum_bytes.specs.declared.MatrixPlace.{MatrixPlace}
use Rattle.tally.specs.Tally.{Tallied, keys_deviation}
use Rattle.tally.proofs.Tallies.{deviation_tallied, past_keys}

-- a row's value in a column
abbrev pub value_in : List ℕ → MatrixPlace → ℕ → ℕ → ℕ
value_in list m c y = (placed_matrix list m).entry y c

module _ {list : List ℕ} {m : MatrixPlace} (stands : MatrixStands list m.rows m.columns m.p m.start) {c : ℕ} (h : c < m.columns) where
  module _ {y : ℕ} (l : y < m.rows) where
    -- where row y has its value in column c
    pub row_within : m.start + y * m.columns + c < length list
    row_within = omega (arith, place_below l h (le_refl (m.rows * m.columns)), stands.entries_within)

    pub value_read : get_or list (m.start + y * m.columns + c) 0 ≡ value_in list m c y
    unfolding placed_matrix matrix_of
    value_read =
        ap (λ k. get_or list k 0) (add_assoc m.start (y * m.columns) c)
        ∙ sym (get_or-take (m.rows * m.columns) _ _ 0 (place_below l h (le_refl _)) ∙ get_or-drop m.start list _ 0)

    pub value_below : value_in list m c y < m.p
    value_below = rw (← value_read, add_assoc) (stands.entry_below (y * m.columns + c) (place_below l h (le_refl _)))

    pub counter_there : value_in list m c y < 4096
    counter_there = omega (arith, value_below, stands.modulus_limits.1)

    pub counter_within : (counters : List ℕ) → length counters ≡ 4096 → get_or list (m.start + y * m.columns + c) 0 < length counters
    counter_within counters size = rw (value_read, size) counter_there

  -- what the counters show of the column
  module _ {counters : List ℕ} (t : Tallied counters m.rows (value_in list m c)) where
    pub column_counted : deviation m.p m.rows (λ v. get_or counters v 0) ≡ deviation m.p m.rows (value_times (placed_matrix list m) c)
    unfolding placed_matrix matrix_of value_times keys_deviation
    column_counted = deviation_tallied m.p t

    pub column_past : (v : ℕ) → m.p ≤ v → get_or counters v 0 ≡ 0
    column_past = past_keys m.p t (λ y l. value_below l)
