-- An ingredient that a look-up finds stands in the list: what was read of it are the numbers at its places.
-- Assumes nothing.
use Rattle.std.specs.Prelude
use Rattle.std.specs.Prelude.{Some, None}
use mathlib.Core.Path.{◌≡◌, refl, sym, ◌∙◌}
use mathlib.Core.List.{List}
use mathlib.Core.Option.{Option, none, some, none-ne-some}
use Prim.Native.Nat.{ℕ, zero, suc, ◌+◌, ◌*◌, ◌%◌, ◌≤◌, ◌<◌}
use native.Mathlib.Nat.{mod-lt}
use native.Mathlib.Omega.{arith}
use lib.Arith.{digits_lt}
use lib.ListN.{length, take, drop, get_elem?, length-append}
use Rattle.order.specs.Range.{EntriesInRange}
use Rattle.places.specs.Places.{ingredient_at, ingredient_in}
use Rattle.places.proofs.Stands.{ingredient_stands, ingredient_described, widths_stand}
use Rattle.buffers.specs.Put.{Bytes}
use Rattle.counting.specs.Matrix.{matrix_of, MatrixInRange}
use Rattle.counting.specs.Generator.{width, generator_of, ElementsInRange}
use Rattle.order.specs.Order.{Ingredient, table, matrix, generator, Order, total, Between, FactorWidth, IngredientLimits, written_ingredient}
use Rattle.order.specs.Grammar.{read_order, Reads}
use Rattle.order.specs.Answers.{located}
use Rattle.order.specs.declared.Located.{Located}
use Rattle.order.specs.declared.Located.TheVariants.{Table as TableAt, Matrix as MatrixAt, Generator as GeneratorAt}
use Rattle.order.proofs.Segment.{Segment, segment_fits}
use Rattle.order.proofs.OrderLaw.{reads_iff}
use Rattle.sheets.proofs.Ingredients.{InBounds, all_at, width_total}
use Rattle.ingredients.specs.Standing.{TableStands, MatrixStands, GeneratorStands}
use Rattle.ingredients.proofs.Parts.{part_length, part_at, part_bytes, part_all}

-- the numbers of an ingredient lie within the list, and a generator's widths add up to the length of its rows
abbrev Within : List ℕ → Prelude.Option Located → Type 0
Within list (Some (TableAt rows columns levels_at entries_at)) = (levels_at + columns ≤ length list) × (entries_at + rows * columns ≤ length list)
Within list (Some (MatrixAt rows columns p entries_at)) = entries_at + rows * columns ≤ length list
Within list (Some (GeneratorAt t n s widths_at w entries_at)) =
    (widths_at + n ≤ length list) × (entries_at + t * w ≤ length list) × (w ≡ total (take n (drop widths_at list)))
Within list None = Unit {0}

within_found : {list : List ℕ} {place after : ℕ} (g : Ingredient) → IngredientLimits g → Segment list place (written_ingredient g) after → Within list (Some (located (place + 3) g))
within_found (table rows levels entries) h s =
    let fits = segment_fits s (omega arith) in (
      omega (arith, length-append levels entries),
      omega (arith, length-append levels entries, h.3),
    )
within_found (matrix rows columns p entries) h s = let fits = segment_fits s (omega arith) in omega (arith, h.3)
within_found (generator t s widths entries) h seg =
    let fits = segment_fits seg (omega arith) in (
      omega (arith, length-append widths entries),
      omega (arith, length-append widths entries, h.4),
      rw (widths_stand t s widths entries seg),
    )

within_none : (list : List ℕ) (L : Prelude.Option Located) → ingredient_in list L ≡ none → Within list L
within_none list (Some (TableAt rows columns levels_at entries_at)) e = absurd (none-ne-some _ (sym e))
within_none list (Some (MatrixAt rows columns p entries_at)) e = absurd (none-ne-some _ (sym e))
within_none list (Some (GeneratorAt t n s widths_at w entries_at)) e = absurd (none-ne-some _ (sym e))
within_none list None e = tt

module _ (list : List ℕ) (o : Order) (reads : Reads list o) where
  located_within : (k : ℕ) → Within list (ingredient_at (read_order list) (suc k))
  located_within k = go (get_elem? o.ingredients k) refl
    where
      go : (found : Option Ingredient) → get_elem? o.ingredients k ≡ found → Within list (ingredient_at (read_order list) (suc k))
      go none here = within_none list (ingredient_at (read_order list) (suc k)) (ingredient_described list o reads k ∙ here)
      go (some g) here =
          ingredient_stands list o reads k g here λ place after same limits s.
          rw same (within_found g limits s)

  module _ (range : EntriesInRange o) where
    located_known : (k : ℕ) (g : Ingredient) → ingredient_in list (ingredient_at (read_order list) (suc k)) ≡ some g → IngredientLimits g × InBounds g
    located_known k g e =
        let here = sym (ingredient_described list o reads k) ∙ e in (
          all_at IngredientLimits o.ingredients ((reads_iff list o).0 reads).1.each_ingredient k here,
          all_at InBounds o.ingredients range k here,
        )

    pub table_stands : (i : ℕ) → 1 ≤ i → {rows columns levels_at entries_at : ℕ} → ingredient_at (read_order list) i ≡ Some (TableAt rows columns levels_at entries_at) → TableStands list rows columns levels_at entries_at
    table_stands zero h e = absurd (omega arith)
    table_stands (suc k) h {rows} {columns} {levels_at} {entries_at} e =
        let within : Within list (Some (TableAt rows columns levels_at entries_at)) = rw e at (located_within k) in
        let known = located_known k (table rows (take columns (drop levels_at list)) (take (rows * columns) (drop entries_at list))) (rw e) in
        let many = part_length list levels_at columns within.0 in
        let columns_known : Between 1 128 columns = rw many at known.0.1 in
        record {
          short = ((reads_iff list o).0 reads).0;
          rows_limits = known.0.0;
          columns_limits = columns_known;
          levels_within = within.0;
          entries_within = within.1;
          level_limits = part_all list levels_at columns within.0 (Between 2 64) known.0.2;
          entry_below = λ q h. rw (part_at list entries_at (rows * columns) within.1 q h, many, part_at list levels_at columns within.0 (q % columns) (mod-lt q columns_known.0)) at (known.1 q (rw (part_length list entries_at (rows * columns) within.1) h));
        }

    pub matrix_stands : (i : ℕ) → 1 ≤ i → {rows columns p entries_at : ℕ} → ingredient_at (read_order list) i ≡ Some (MatrixAt rows columns p entries_at) → MatrixStands list rows columns p entries_at
    matrix_stands zero h e = absurd (omega arith)
    matrix_stands (suc k) h {rows} {columns} {p} {entries_at} e =
        let within : Within list (Some (MatrixAt rows columns p entries_at)) = rw e at (located_within k) in
        let known = located_known k (matrix rows columns p (take (rows * columns) (drop entries_at list))) (rw e) in
        record {
          short = ((reads_iff list o).0 reads).0;
          rows_limits = known.0.0;
          columns_limits = known.0.1;
          modulus_limits = known.0.2;
          entries_within = within;
          entry_below = λ q h. rw (part_at list entries_at (rows * columns) within q h) at (known.1 q (rw (part_length list entries_at (rows * columns) within) h));
        }

    pub generator_stands : (i : ℕ) → 1 ≤ i → {t n s widths_at w entries_at : ℕ} → ingredient_at (read_order list) i ≡ Some (GeneratorAt t n s widths_at w entries_at) → GeneratorStands list t n s widths_at w entries_at
    generator_stands zero h e = absurd (omega arith)
    generator_stands (suc k) h {t} {n} {s} {widths_at} {w} {entries_at} e =
        let within : Within list (Some (GeneratorAt t n s widths_at w entries_at)) = rw e at (located_within k) in
        let known = located_known k (generator t s (take n (drop widths_at list)) (take (t * w) (drop entries_at list))) (rw e) in
        let many = part_length list widths_at n within.0 in
        record {
          short = ((reads_iff list o).0 reads).0;
          coordinates_limits = known.0.0;
          factors_limits = rw many at known.0.1;
          size_limits = known.0.2;
          widths_within = within.0;
          entries_within = within.1;
          width_total = within.2;
          width_limits = part_all list widths_at n within.0 (FactorWidth s) known.0.3;
          entry_below = λ q h. rw (part_at list entries_at (t * w) within.1 q h) at (known.1 q (rw (part_length list entries_at (t * w) within.1) h));
        }

-- ---- what follows: entries fit in bytes and are in range, as the checks of counting ask

module _ {list : List ℕ} {rows columns p entries_at : ℕ} (s : MatrixStands list rows columns p entries_at) where
  pub matrix_bytes : Bytes (take (rows * columns) (drop entries_at list))
  matrix_bytes =
      part_bytes list entries_at (rows * columns) s.entries_within (λ q h. omega (arith, s.entry_below q h, s.modulus_limits.1))

  pub matrix_in_range : MatrixInRange (matrix_of (take (rows * columns) (drop entries_at list)) rows columns p)
  unfolding MatrixInRange matrix_of
  matrix_in_range r c hr hc =
      let place : r * columns + c < rows * columns = digits_lt hr hc in
      rw (part_at list entries_at (rows * columns) s.entries_within (r * columns + c) place) (s.entry_below (r * columns + c) place)

module _ {list : List ℕ} {t n s widths_at w entries_at : ℕ} (g : GeneratorStands list t n s widths_at w entries_at) where
  pub generator_bytes : Bytes (take (t * w) (drop entries_at list))
  generator_bytes =
      part_bytes list entries_at (t * w) g.entries_within (λ q h. omega (arith, g.entry_below q h, g.size_limits.0.1))

  -- the length of a row, as counting has it
  pub generator_row : width (take n (drop widths_at list)) ≡ w
  generator_row = width_total (take n (drop widths_at list)) ∙ sym g.width_total

  pub elements_in_range : ElementsInRange (generator_of (take (t * w) (drop entries_at list)) t s (take n (drop widths_at list)))
  unfolding ElementsInRange generator_of
  elements_in_range r c hr hc =
      let below : c < w = rw generator_row at hc in
      let place : r * w + c < t * w = digits_lt hr below in
      rw (generator_row, part_at list entries_at (t * w) g.entries_within (r * w + c) place) (g.entry_below (r * w + c) place)
