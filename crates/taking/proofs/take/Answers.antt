-- `taking::take` meets its contract: the buffers are clear, and the table that the number names is put into them.
use mathlib.Core.Path.{◌≡◌, refl}
use mathlib.Core.List.{List}
use mathlib.Core.Option.{some}
use Prim.Native.Nat.{ℕ}
use native.Mathlib.Nat.{le_trans}
use native.Mathlib.Omega.{arith}
use borrow.Author.Rules.{rules}
use Rattle.ingredients.specs.Named.{table_in, some_table}
use Rattle.ingredients.specs.declared.named.NamedTable.{NamedTable}
use Rattle.ingredients.specs.declared.named.NamedTable.TheVariants.{Own, House, Missing}
use Rattle.layout.specs.Step.{Left}
use Rattle.layout.proofs.Rows.{put_holds}
use Rattle.layout.proofs.Sheets.{held_limits, held_answer}
use Rattle.taking.proofs.Taken.{number_within, legible, small, cells_most, none_taken, one_taken}
use Rattle.taking.proofs.take.Goals as goal

-- a table that is not missing is one
some_named : (list : List ℕ) (N : NamedTable) → (N ≡ Missing → ⊥) → some_table list N ≡ some (table_in list N)
unfolding some_table
some_named list (Own rows width levels_at entries_at) h = refl
some_named list (House number) h = refl
some_named list Missing h = absurd (h refl)

pub offset_bounds-list-at : goal.offset_bounds-list-at
offset_bounds-list-at c = let within = number_within c.requires.readable c.requires.stands in search rules

pub bounds-list-at : goal.bounds-list-at
bounds-list-at c = number_within c.requires.readable c.requires.stands

pub returns-in-Missing : goal.returns-in-Missing
unfolding Left
returns-in-Missing c =
    rw (none_taken c.requires.readable c.requires.stands _ c.table_named-named.ensures c.in-Missing.is) (refl, refl, refl)

pub put_runs-requires : goal.put_runs-requires
put_runs-requires c =
    let found = c.table_named-named.ensures in
    record {
      legible = legible c.requires.readable c.requires.stands _ found;
      table_in_bounds = le_trans (cells_most c.requires.readable c.requires.stands _ found) c.requires.in_bounds.0;
    }

pub put_level_counts-requires : goal.put_level_counts-requires
put_level_counts-requires c =
    let found = c.table_named-named.ensures in
    record {
      legible = legible c.requires.readable c.requires.stands _ found;
      table_in_bounds = omega (arith, (small c.requires.readable c.requires.stands _ found).columns_most, c.requires.in_bounds_2.0);
    }

pub run_count-requires : goal.run_count-requires
run_count-requires c =
    legible c.requires.readable c.requires.stands _ c.table_named-named.ensures

pub column_count-requires : goal.column_count-requires
column_count-requires c =
    legible c.requires.readable c.requires.stands _ c.table_named-named.ensures

pub sheet_answer-requires : goal.sheet_answer-requires
sheet_answer-requires c =
    let found = c.table_named-named.ensures in
    held_limits (put_holds _ c.requires.in_bounds.1 c.requires.in_bounds_2.1 c.put_runs.ensures c.put_level_counts.ensures)
    c.run_count.ensures
    c.column_count.ensures
    (small c.requires.readable c.requires.stands _ found)

pub returns : goal.returns
unfolding Left
returns c =
    let holds = put_holds _ c.requires.in_bounds.1 c.requires.in_bounds_2.1 c.put_runs.ensures c.put_level_counts.ensures in
    rw (one_taken c.requires.readable c.requires.stands _ c.table_named-named.ensures (some_named _ _ c.in_default.not-Missing))
    (held_answer holds c.run_count.ensures c.column_count.ensures c.sheet_answer.ensures, holds)
