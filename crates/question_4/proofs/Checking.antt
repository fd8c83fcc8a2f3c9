-- The numbers of an ingredient that stands in the list can be copied into buffers with room for any, and checked there.
-- Assumes nothing.
use mathlib.Core.Path.{sym, ◌∙◌, ap}
use mathlib.Core.List.{List}
use Prim.Native.Nat.{ℕ, ◌+◌, ◌*◌, ◌≤◌, ◌<◌}
use native.Mathlib.Nat.{le_of_eq, le_trans}
use native.Mathlib.Omega.{arith}
use lib.ListN.{length, get_or, take, drop}
use Rattle.counting.specs.Checkable.{CheckableTable, CheckableMatrix, CheckableGenerator}
use Rattle.counting.specs.Table.{table_of}
use Rattle.order.proofs.Powers.{width_small}
use Rattle.sheets.proofs.Ingredients.{field_size_lem}
use Rattle.ingredients.specs.Named.{table_in, Legible}
use Rattle.ingredients.specs.Standing.{TableStands, MatrixStands, GeneratorStands}
use Rattle.question_4.specs.Passing.{Copyable}
use Rattle.ingredients.proofs.Parts.{part_length, part_at, part_bytes}
use Rattle.ingredients.proofs.Standing.{matrix_bytes, matrix_in_range, generator_bytes, generator_row, elements_in_range}
use Rattle.ingredients.proofs.NamedLaws.{own_legible, own_limits}

module _ {list : List ℕ} {rows columns levels_at entries_at : ℕ} (s : TableStands list rows columns levels_at entries_at) where
  pub levels_copyable : {numbers : List ℕ} → 128 ≤ length numbers → Copyable list levels_at columns numbers
  unfolding Legible
  levels_copyable long =
      record { within = s.levels_within; room = omega (arith, s.columns_limits.1, long); small = (own_legible s).2 }

  pub cells_copyable : {cells : List ℕ} → 65536 ≤ length cells → Copyable list entries_at (rows * columns) cells
  unfolding Legible
  cells_copyable long =
      record { within = s.entries_within; room = omega (arith, s.entries_within, s.short, long); small = (own_legible s).3 }

  pub table_checkable : CheckableTable (take (rows * columns) (drop entries_at list)) (take columns (drop levels_at list)) rows
  unfolding table_in table_of
  table_checkable =
      let many = part_length list levels_at columns s.levels_within in
      record {
        whole = le_of_eq (ap (λ k. rows * k) many ∙ sym (part_length list entries_at (rows * columns) s.entries_within));
        few = s.rows_limits.1;
        narrow = le_trans (le_of_eq many) s.columns_limits.1;
        levels_from = λ c h. ((own_limits s).level_limits c h).0;
        levels_to = λ c h. ((own_limits s).level_limits c h).1;
        in_range = (own_limits s).in_range;
      }

module _ {list : List ℕ} {rows columns p entries_at : ℕ} (s : MatrixStands list rows columns p entries_at) where
  pub matrix_copyable : {cells : List ℕ} → 65536 ≤ length cells → Copyable list entries_at (rows * columns) cells
  matrix_copyable long =
      record { within = s.entries_within; room = omega (arith, s.entries_within, s.short, long); small = matrix_bytes s }

  pub matrix_checkable : CheckableMatrix (take (rows * columns) (drop entries_at list)) rows columns p
  matrix_checkable =
      record {
        whole = le_of_eq (sym (part_length list entries_at (rows * columns) s.entries_within));
        few = s.rows_limits.1;
        narrow = s.columns_limits.1;
        modulus_from = s.modulus_limits.0;
        modulus_to = s.modulus_limits.1;
        in_range = matrix_in_range s;
      }

module _ {list : List ℕ} {t n s widths_at w entries_at : ℕ} (g : GeneratorStands list t n s widths_at w entries_at) where
  pub widths_copyable : {numbers : List ℕ} → 128 ≤ length numbers → Copyable list widths_at n numbers
  widths_copyable long =
      record {
        within = g.widths_within;
        room = omega (arith, g.factors_limits.1, long);
        small =
            part_bytes list widths_at n g.widths_within
            (λ i h. omega (arith, width_small s (get_or list (widths_at + i) 0) g.size_limits.0.0 (g.width_limits i h)));
      }

  pub generator_copyable : {cells : List ℕ} → 65536 ≤ length cells → Copyable list entries_at (t * w) cells
  generator_copyable long =
      record { within = g.entries_within; room = omega (arith, g.entries_within, g.short, long); small = generator_bytes g }

  pub generator_checkable : CheckableGenerator (take (t * w) (drop entries_at list)) t s (take n (drop widths_at list))
  generator_checkable =
      let many = part_length list widths_at n g.widths_within in
      record {
        whole = le_of_eq (ap (λ k. t * k) (generator_row g) ∙ sym (part_length list entries_at (t * w) g.entries_within));
        size = field_size_lem t s g.size_limits;
        few = rw many g.factors_limits.1;
        powers = λ i h. let below : i < n = rw many at h in rw (part_at list widths_at n g.widths_within i below) (g.width_limits i below).1;
        in_range = elements_in_range g;
      }
