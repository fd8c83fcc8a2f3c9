-- The sheet that FIELD leaves: its size, its level counts and its cells, by the numbers of the list.
-- Assumes nothing.
use mathlib.Core.Path.{◌≡◌, refl, ◌∙◌, ap}
use mathlib.Core.List.{List}
use Prim.Native.Nat.{ℕ, ◌+◌, ◌*◌, ◌^◌, ◌≤◌, ◌<◌}
use native.Mathlib.Nat.{le_trans, le_of_eq, mul-le-mul}
use native.Mathlib.Numerals.{add-one}
use native.Mathlib.Omega.{arith}
use lib.ListN.{length, get_or, drop, length-drop}
use lib.Seq.{get_or-take, get_or-drop, length-take-le}
use Rattle.finite.specs.Sum.{sum}
use Rattle.finite.proofs.Sums.{sum_le}
use Rattle.counting.specs.Generator.{generator_of, width, factor_columns}
use Rattle.counting.specs.Table.{Table, columns, levels_of}
use Rattle.step_tables.specs.Field.{field_table}
use Rattle.sheets.specs.Steps.{field_step}
use Rattle.step_tables.proofs.FieldTable.{field_columns, field_levels}
use Rattle.generated_runs.specs.FieldPlaces.{FieldStands, ColumnsIn, widths_in, field_generator}
use Rattle.generated_runs.specs.declared.GeneratorAt.{GeneratorAt}
use Rattle.generated_runs.proofs.FieldPlaces.{level_at}

-- the sheet
abbrev pub sheet_of : List ℕ → GeneratorAt → Table
sheet_of list g = field_step (field_generator list g)

-- how many columns the first factors have
abbrev pub columns_before : List ℕ → GeneratorAt → ℕ → ℕ
columns_before list g i = sum i (λ k. get_or (widths_in list g) k 0)

-- the width of factor i, where it stands
abbrev pub width_at : List ℕ → GeneratorAt → ℕ → ℕ
width_at list g i = get_or list (g.widths_at + i) 0

module _ {list : List ℕ} {g : GeneratorAt} (known : FieldStands list g) where
  widths_many : length (widths_in list g) ≡ g.n
  unfolding widths_in
  widths_many =
      length-take-le g.n (drop g.widths_at list) (omega (arith, length-drop g.widths_at list, known.widths_there))

  width_at_lem : (i : ℕ) → i < g.n → get_or (widths_in list g) i 0 ≡ width_at list g i
  unfolding widths_in
  width_at_lem i h = get_or-take g.n (drop g.widths_at list) i 0 h ∙ get_or-drop g.widths_at list i 0

  -- ---- the level counts

  pub sheet_columns : columns (sheet_of list g) ≡ g.n
  unfolding field_step field_generator generator_of
  sheet_columns = field_columns _ _ (field_generator list g) ∙ widths_many

  pub width_power : (i : ℕ) → i < g.n → g.s ^ width_at list g i ≤ 64
  width_power i h = rw (← width_at_lem i h) (known.powers i h)

  pub sheet_level : (i : ℕ) → i < g.n → levels_of (sheet_of list g) i ≡ g.s ^ width_at list g i
  unfolding field_step field_generator generator_of
  sheet_level i h = field_levels _ _ (field_generator list g) (rw widths_many h) ∙ ap (λ u. g.s ^ u) (width_at_lem i h)

  -- ---- the cells

  pub columns_next : (i : ℕ) → i < g.n → columns_before list g (i + 1) ≡ columns_before list g i + width_at list g i
  unfolding sum
  columns_next i h = rw add-one (ap (λ u. columns_before list g i + u) (width_at_lem i h))

  pub factor_columns_lem : (i : ℕ) → i < g.n → ColumnsIn g (columns_before list g i) (width_at list g i)
  unfolding width
  factor_columns_lem i h =
      record {
        within = rw (← columns_next i h) (le_trans (sum_le _ (rw widths_many (omega arith))) (le_of_eq known.row));
        power = width_power i h;
      }

  pub sheet_cell : (r i : ℕ) → i < g.n
      → (sheet_of list g).cell r i
      ≡ level_at list g r (columns_before list g i) (width_at list g i)
  unfolding field_step field_table field_generator generator_of factor_columns
  sheet_cell r i h = rw (width_at_lem i h)

  -- ---- the runs

  pub sheet_runs : (sheet_of list g).runs ≡ g.s ^ g.t
  unfolding field_step field_table field_generator generator_of
  sheet_runs = refl

  pub sheet_fits : g.s ^ g.t * columns (sheet_of list g) ≤ 65536
  sheet_fits = rw sheet_columns (mul-le-mul known.runs_most known.factors_most)
