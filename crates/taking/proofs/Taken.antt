-- What TAKE comes to: the table that its number names, which is never too large.
-- Assumes nothing.
use mathlib.Core.Path.{◌≡◌, ◌∙◌}
use mathlib.Core.List.{List}
use mathlib.Core.Option.{some, map}
use Prim.Native.Nat.{ℕ, ◌*◌, ◌≤◌, ◌<◌}
use native.Mathlib.Omega.{arith}
use lib.ListN.{length, get_or}
use Rattle.counting.specs.Table.{columns}
use Rattle.order.specs.Order.{IngredientNumber}
use Rattle.order.specs.Grammar.{read_order}
use Rattle.order.proofs.Segment.{segment_in}
use Rattle.step_tables.specs.Sheet.{SmallEnough, take_step}
use Rattle.sheets.specs.Steps.{filled, refused, provided, opening, sized, first_step}
use Rattle.sheets.specs.declared.answer.Refusal.TheVariants.{StepNotAllowed}
use Rattle.sheets.proofs.Carried.{filled_sized}
use Rattle.ingredients.specs.Named.{named_table, table_in, Legible, some_table}
use Rattle.ingredients.specs.declared.named.NamedTable.{NamedTable}
use Rattle.ingredients.specs.declared.named.NamedTable.TheVariants.{Missing}
use Rattle.layout.specs.Step.{Readable, Stands, first_in}
use Rattle.layout.proofs.Sheets.{cells_few}
use Rattle.layout.proofs.Operands.{first_in_lem, operands_stand, named_is, legible_table, table_limits}

module _ {list : List ℕ} {at : ℕ} (readable : Readable list) (stands : Stands list 1 at) where
  pub number_within : at < length list
  number_within = operands_stand readable 1 at stands (λ place after e limits s. let within = segment_in s 1 (omega arith) in omega arith)

  number_limits : IngredientNumber (get_or list at 0)
  number_limits = operands_stand readable 1 at stands (λ place after e limits s. limits)

  module _ (N : NamedTable) (found : N ≡ named_table (read_order list) (get_or list at 0)) where
    pub legible : Legible list N
    legible = rw found (legible_table readable (get_or list at 0) number_limits)

    pub small : SmallEnough (table_in list N)
    small = rw found (table_limits readable (get_or list at 0) number_limits).small

    pub cells_most : (table_in list N).runs * columns (table_in list N) ≤ 65536
    cells_most = cells_few small.runs_most small.columns_most

    taken : first_in list 1 at ≡ provided (map take_step (some_table list N)) (StepNotAllowed 1) (sized 1)
    unfolding first_step opening
    taken = first_in_lem readable 1 at ∙ rw (named_is readable (get_or list at 0) number_limits, found)

    pub none_taken : N ≡ Missing → first_in list 1 at ≡ refused (StepNotAllowed 1)
    unfolding some_table provided
    none_taken e = taken ∙ rw e

    pub one_taken : some_table list N ≡ some (table_in list N) → first_in list 1 at ≡ filled (table_in list N)
    unfolding provided take_step
    one_taken e = taken ∙ rw e (filled_sized 1 (table_in list N) small)
