-- What SPLIT comes to, question by question.
-- Assumes nothing.
use mathlib.Core.Path.{◌≡◌, ◌∙◌}
use mathlib.Core.Bool.{true, false}
use mathlib.Core.List.{List}
use mathlib.Core.Option.{some, map}
use Prim.Native.Nat.{ℕ, ◌+◌, ◌-◌, ◌≤◌, ◌<◌}
use native.Mathlib.Omega.{arith}
use borrow.Author.Tests.{le-leb, lt-leb}
use lib.ListN.{length, get_or}
use Rattle.counting.specs.Table.{Table, columns}
use Rattle.order.specs.Order.{SPLIT, StepLimits}
use Rattle.order.specs.Grammar.{read_order}
use Rattle.order.proofs.Segment.{segment_in}
use Rattle.step_tables.specs.Sheet.{AllLevels, LevelCount, SmallEnough, from_sources, small_enough}
use Rattle.step_tables.specs.Split.{split_fits, split_step}
use Rattle.sheets.specs.Steps.{filled, refused, provided, unless, split, operation, fits, uneven_matrix, wrong_member, applied, sized, after_sums, operate, later_step}
use Rattle.sheets.specs.declared.answer.Refusal.TheVariants.{StepNotAllowed, PartsDoNotFit, TooLarge}
use Rattle.ingredients.specs.Named.{named_table, table_in, Legible, some_table}
use Rattle.ingredients.specs.declared.named.NamedTable.{NamedTable}
use Rattle.ingredients.specs.declared.named.NamedTable.TheVariants.{Missing}
use Rattle.ingredients.proofs.NamedLaws.{TableLimits}
use Rattle.layout.specs.Step.{Readable, Stands, later_in}
use Rattle.layout.proofs.Operands.{later_in_lem, operands_stand, named_is, legible_table, table_limits}
use Rattle.sheets.proofs.Carried.{filled_sized}

module _ {list : List ℕ} {at : ℕ} (readable : Readable list) (stands : Stands list 5 at) where
  pub operands_within : at + 1 < length list
  operands_within = operands_stand readable 5 at stands (λ place after e limits s. let within = segment_in s 2 (omega arith) in omega arith)

  operand_limits : StepLimits (SPLIT (get_or list at 0) (get_or list (at + 1) 0))
  operand_limits = operands_stand readable 5 at stands (λ place after e limits s. limits)

  pub column_from_one : 1 ≤ get_or list at 0
  column_from_one = operand_limits.0.0

  module _ (N : NamedTable) (found : N ≡ named_table (read_order list) (get_or list (at + 1) 0)) where
    pub legible : Legible list N
    legible = rw found (legible_table readable (get_or list (at + 1) 0) operand_limits.1)

    limits : TableLimits (table_in list N)
    limits = rw found (table_limits readable (get_or list (at + 1) 0) operand_limits.1)

    pub small : SmallEnough (table_in list N)
    small = limits.small

    pub few_levels : AllLevels LevelCount (table_in list N)
    unfolding AllLevels
    few_levels c h = limits.level_limits c h

    module _ (n : ℕ) (S : Table) where
      comes_to : later_in list n S 5 at ≡ provided (map (split (get_or list at 0 - 1)) (some_table list N)) (StepNotAllowed n) (operate n S)
      unfolding later_step operation
      comes_to = later_in_lem readable 5 at n S ∙ rw (named_is readable (get_or list (at + 1) 0) operand_limits.1, found)

      pub none_named : N ≡ Missing → later_in list n S 5 at ≡ refused (StepNotAllowed n)
      unfolding some_table provided
      none_named e = comes_to ∙ rw e

      module _ (there : some_table list N ≡ some (table_in list N)) where
        pub unfit : split_fits (get_or list at 0 - 1) (table_in list N) S ≡ false → later_in list n S 5 at ≡ refused (PartsDoNotFit n)
        unfolding provided operate fits
        unfit e = comes_to ∙ rw (there, e)

        module _ (fit : split_fits (get_or list at 0 - 1) (table_in list N) S ≡ true) where
          to_size : later_in list n S 5 at ≡ sized n (split_step (get_or list at 0 - 1) (table_in list N) S)
          unfolding provided unless operate fits uneven_matrix wrong_member applied after_sums
          to_size = comes_to ∙ rw (there, fit)

          pub over_large : S.runs ≤ 512 → 128 < columns (split_step (get_or list at 0 - 1) (table_in list N) S)
              → later_in list n S 5 at ≡ refused (TooLarge n S.runs (columns (split_step (get_or list at 0 - 1) (table_in list N) S)))
          unfolding sized small_enough split_step from_sources
          over_large h k = to_size ∙ simp (le-leb S.runs 512 h, lt-leb _ _ k)

          pub fills : SmallEnough (split_step (get_or list at 0 - 1) (table_in list N) S) → later_in list n S 5 at ≡ filled (split_step (get_or list at 0 - 1) (table_in list N) S)
          fills enough = to_size ∙ filled_sized n _ enough
