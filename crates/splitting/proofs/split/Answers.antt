-- `splitting::split` meets its contract: each question's No is the definition's, and the Yes of all is the next sheet.
use mathlib.Core.Path.{◌≡◌, refl, sym, ◌∙◌, ap}
use mathlib.Core.Bool.{Bool, true, ◌&&◌}
use mathlib.Core.List.{List}
use mathlib.Core.Option.{some}
use Prim.Native.Nat.{ℕ}
use native.Mathlib.Omega.{arith}
use borrow.Author.Rules.{rules}
use lib.Dec.{eqb, ltb}
use lib.ListN.{length, get_or, take}
use lib.IntN.{◌+ℤ◌}
use mir.Facts.{to_z-of_z}
use mir.Syntax.{w64}
use mir.Val.{of_z, to_z}
use Rattle.counting.specs.Table.{Table, table_of}
use Rattle.layout.specs.declared.Size.{Size}
use Rattle.step_tables.specs.Split.{SplitFits, split_fits}
use Rattle.step_tables.proofs.StepQuestions.{split_decides}
use Rattle.spare.specs.Spare.{spare}
use Rattle.ingredients.specs.Named.{table_in, some_table}
use Rattle.ingredients.specs.declared.named.NamedTable.{NamedTable}
use Rattle.ingredients.specs.declared.named.NamedTable.TheVariants.{Own, House, Missing}
use Rattle.layout.specs.Bytes.{sheet_in}
use Rattle.layout.specs.Step.{Left}
use Rattle.split_sheet.proofs.Sheet.{on_sheet, next_columns}
use Rattle.splitting.proofs.Answers.{filled_answer, large_answer, next_small, spare_room}
use Rattle.splitting.proofs.Outcome.{operands_within, column_from_one, legible, small, few_levels, none_named, unfit, over_large, fills}
use Rattle.splitting.proofs.split.Goals as goal

-- a table that is not missing is one
some_named : (list : List ℕ) (N : NamedTable) → (N ≡ Missing → ⊥) → some_table list N ≡ some (table_in list N)
unfolding some_table
some_named list (Own rows width levels_at entries_at) h = refl
some_named list (House number) h = refl
some_named list Missing h = absurd (h refl)

-- question 6 as the definition has it
asked : (place : ℕ) (T : Table) (table levels : List ℕ) (size : Size) {b : Bool}
    → b ≡ (ltb place (length (take size.columns levels)) && eqb T.runs (get_or (take size.columns levels) place 0))
    → split_fits place T (sheet_in table levels size) ≡ b
unfolding split_fits sheet_in table_of
asked place T table levels size e = sym e

fit_sheet : (place : ℕ) (T S : Table) → split_fits place T S ≡ true → SplitFits place T S
fit_sheet place T S fit = (split_decides place T S).0 (rw fit tt)

pub overflow_add-at : goal.overflow_add-at
overflow_add-at c = let within = operands_within c.requires.ready.readable c.requires.stands in search rules

pub offset_bounds-list-at : goal.offset_bounds-list-at
offset_bounds-list-at c = let within = operands_within c.requires.ready.readable c.requires.stands in search rules

pub bounds-list-at : goal.bounds-list-at
bounds-list-at c = operands_within c.requires.ready.readable c.requires.stands

pub returns-in-Missing : goal.returns-in-Missing
unfolding Left
returns-in-Missing c =
    let ready = c.requires.ready in
    rw (none_named ready.readable c.requires.stands _ c.table_named-named.ensures _ _ c.in-Missing.is) (record { left = (refl, refl, refl); zeros = ready.scratch_clear })

pub offset_bounds-list-at-2 : goal.offset_bounds-list-at-2
offset_bounds-list-at-2 c = let within = operands_within c.requires.ready.readable c.requires.stands in search rules

pub bounds-list-at-2 : goal.bounds-list-at-2
bounds-list-at-2 c = let within = operands_within c.requires.ready.readable c.requires.stands in search rules

pub overflow_sub-c : goal.overflow_sub-c
overflow_sub-c c = column_from_one c.requires.ready.readable c.requires.stands

pub parts_fit-requires : goal.parts_fit-requires
parts_fit-requires c = legible c.requires.ready.readable c.requires.stands _ c.table_named-named.ensures

pub returns-then-not-parts_fit : goal.returns-then-not-parts_fit
unfolding Left
returns-then-not-parts_fit c =
    let six = asked _ (table_in c.args.list.now c.table_named-named.result) c.args.table.now c.args.levels.now c.args.size c.parts_fit.ensures in
    let ready = c.requires.ready in
    rw (unfit ready.readable c.requires.stands _ c.table_named-named.ensures _ _ (some_named _ _ c.in_default.not-Missing) (six ∙ c.if-not-parts_fit.true))
    (record { left = (refl, refl, refl); zeros = ready.scratch_clear })

pub overflow_sub-columns : goal.overflow_sub-columns
overflow_sub-columns c =
    let fit = asked _ (table_in c.args.list.now c.table_named-named.result) c.args.table.now c.args.levels.now c.args.size c.parts_fit.ensures ∙ c.if-not-parts_fit.false in
    let fits = fit_sheet _ _ _ fit in
    let below = on_sheet c.requires.ready _ _ fits in search rules

pub column_count-requires : goal.column_count-requires
column_count-requires c = legible c.requires.ready.readable c.requires.stands _ c.table_named-named.ensures

pub overflow_add-columns : goal.overflow_add-columns
overflow_add-columns c =
    let few = (small c.requires.ready.readable c.requires.stands _ c.table_named-named.ensures).columns_most in
    omega (arith, c.requires.ready.columns_most, c.column_count.ensures)

pub returns-then-columns-gt128 : goal.returns-then-columns-gt128
unfolding Left
returns-then-columns-gt128 c =
    let fit = asked _ (table_in c.args.list.now c.table_named-named.result) c.args.table.now c.args.levels.now c.args.size c.parts_fit.ensures ∙ c.if-not-parts_fit.false in
    let fits = fit_sheet _ _ _ fit in
    let ready = c.requires.ready in
    let more = rw c.column_count.ensures at c.if-columns-gt128.true in
    rw (over_large ready.readable c.requires.stands _ c.table_named-named.ensures _ _ (some_named _ _ c.in_default.not-Missing) fit ready.small.runs_most (rw (next_columns ready _ _ fits) more))
    (record { left = (large_answer ready _ _ fits c.column_count.ensures _, refl, refl); zeros = ready.scratch_clear })

pub split_column-requires : goal.split_column-requires
split_column-requires c =
    let fit = asked _ (table_in c.args.list.now c.table_named-named.result) c.args.table.now c.args.levels.now c.args.size c.parts_fit.ensures ∙ c.if-not-parts_fit.false in
    let fits = fit_sheet _ _ _ fit in
    let ready = c.requires.ready in
    record {
      ready = ready;
      legible = legible ready.readable c.requires.stands _ c.table_named-named.ensures;
      split_fits = fits;
      small_enough = next_small ready _ _ fits (rw c.column_count.ensures at c.if-columns-gt128.false);
    }

pub table_spare-requires-clause-legible : goal.table_spare-requires-clause-legible
table_spare-requires-clause-legible c =
    let found = c.table_named-named.ensures in legible c.requires.ready.readable c.requires.stands _ found

pub table_spare-requires-clause-small_enough : goal.table_spare-requires-clause-small_enough
table_spare-requires-clause-small_enough c =
    let found = c.table_named-named.ensures in small c.requires.ready.readable c.requires.stands _ found

pub overflow_add-spare : goal.overflow_add-spare
overflow_add-spare c =
    let ready = c.requires.ready in
    let found = c.table_named-named.ensures in
    -- the spare degrees of the sheet in hand and of the table: as they are read back, and that their sum has room
    let sheet_back : to_z w64 (of_z w64 c.args.size.spare) ≡ c.args.size.spare = search rules in
    let table_back : to_z w64 (of_z w64 c.table_spare.result) ≡ c.table_spare.result = search rules in
    let room = spare_room ready (small ready.readable c.requires.stands _ found) (few_levels ready.readable c.requires.stands _ found) c.table_spare.ensures in
    rw (sheet_back, table_back) room

pub returns : goal.returns
unfolding Left
returns c =
    let fit = asked _ (table_in c.args.list.now c.table_named-named.result) c.args.table.now c.args.levels.now c.args.size c.parts_fit.ensures ∙ c.if-not-parts_fit.false in
    let fits = fit_sheet _ _ _ fit in
    let ready = c.requires.ready in
    let found = c.table_named-named.ensures in
    -- the spare degrees of the sheet in hand and of the table: as they are read back, and that their sum has room
    let sheet_back : to_z w64 (of_z w64 c.args.size.spare) ≡ c.args.size.spare = search rules in
    let table_back : to_z w64 (of_z w64 c.table_spare.result) ≡ c.table_spare.result = search rules in
    let room = spare_room ready (small ready.readable c.requires.stands _ found) (few_levels ready.readable c.requires.stands _ found) c.table_spare.ensures in
    -- the sum as it is read back
    let added : to_z w64 (of_z w64 (to_z w64 (of_z w64 c.args.size.spare) +ℤ to_z w64 (of_z w64 c.table_spare.result)))
    ≡ c.args.size.spare +ℤ spare (table_in c.args.list.now c.table_named-named.result) =
    rw (sheet_back, table_back) (to_z-of_z room ∙ ap (λ x. c.args.size.spare +ℤ x) c.table_spare.ensures) in
    rw (fills ready.readable c.requires.stands _ found _ _ (some_named _ _ c.in_default.not-Missing) fit (next_small ready _ _ fits (rw c.column_count.ensures at c.if-columns-gt128.false)))
    (record { left = (filled_answer ready _ _ fits c.column_count.ensures added, c.split_column.ensures.holds); zeros = c.split_column.ensures.zeros })
