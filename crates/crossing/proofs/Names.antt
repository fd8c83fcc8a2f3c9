-- Question 5 of CROSS: SUM's of the operands that it begins with, and then of h.
-- Assumes nothing.
use mathlib.Core.Path.{◌≡◌, refl, ◌∙◌}
use mathlib.Core.Logic.{⊎_elim}
use mathlib.Core.Bool.{true, false}
use mathlib.Core.List.{List}
use mathlib.Core.Option.{none, bind}
use Prim.Native.Nat.{ℕ, ◌≤◌}
use Rattle.std.specs.Prelude.{None}
use Rattle.counting.specs.Table.{Table}
use Rattle.order.specs.Order.{CROSS}
use Rattle.order.specs.Grammar.{read_order}
use Rattle.places.specs.Places.{matrices_from, adjoined_from, crossed_from}
use Rattle.sheets.specs.Ingredients.{matrices_named, table_named}
use Rattle.sheets.specs.Steps.{Outcome, cross, provided, operation, operate, later_step}
use Rattle.sheets.specs.declared.answer.Refusal.TheVariants.{StepNotAllowed}
use Rattle.sheets.specs.declared.answer.Answer.{Answer}
use Rattle.sheets.specs.declared.answer.Answer.TheVariants.{Refused}
use Rattle.ingredients.specs.Named.{named_table, table_in, some_table}
use Rattle.ingredients.specs.declared.named.NamedTable.{NamedTable}
use Rattle.ingredients.proofs.NamedLaws.{table_named_lem}
use Rattle.layout.specs.Step.{Readable, later_in, Left}
use Rattle.layout.proofs.Operands.{later_in_lem}
use Rattle.sum_bytes.specs.Summing.{matrices_at, is_missing, SumOperands, summands_of}
use Rattle.sum_bytes.proofs.SumNames.{AllNamed, summands_missing, found_table, missing_table}

module _ {list : List ℕ} (readable : Readable list) (at n : ℕ) (S : Table) (table levels : List ℕ) where
  later : Outcome
  later =
      provided (operation readable.order (CROSS (matrices_from list at) (adjoined_from list at) (crossed_from list at))) (StepNotAllowed n) (operate n S)

  later_is : later_in list n S 6 at ≡ later
  unfolding later_step later
  later_is = later_in_lem readable 6 at n S

  -- a number of SUM's does not name what it should
  pub left_unnamed : SumOperands list at → None ≡ summands_of list at → Left (later_in list n S 6 at) table levels (Refused (StepNotAllowed n)) table levels
  unfolding later operation provided bind Left
  left_unnamed operands e =
      ⊎_elim
      (λ (unnamed : matrices_named readable.order (matrices_from list at) ≡ none). rw (later_is, unnamed) (refl, refl, refl))
      (λ named. rw (later_is, named.0, named.1) (refl, refl, refl))
      (summands_missing readable operands e)

  module _ {k : NamedTable} (named : AllNamed readable at k) (from_one : 1 ≤ crossed_from list at) {h : NamedTable}
      (other : h ≡ named_table (read_order list) (crossed_from list at)) where
    other_named : table_named readable.order (crossed_from list at) ≡ some_table list h
    other_named = rw other (table_named_lem list readable.order readable.reads (crossed_from list at) from_one)

    -- h names no table
    pub left_one_sided : is_missing h ≡ true → Left (later_in list n S 6 at) table levels (Refused (StepNotAllowed n)) table levels
    unfolding later operation provided bind Left
    left_one_sided missing =
        rw (later_is, named.matrices, named.adjoined, other_named ∙ missing_table readable h missing) (refl, refl, refl)

    -- all are there
    pub left_named : is_missing h ≡ false → (answer : Answer) (table' levels' : List ℕ)
        → Left (operate n S (cross (matrices_from list at) (matrices_at list (matrices_from list at)) (some_table list k) (table_in list h))) table levels answer table' levels'
        → Left (later_in list n S 6 at) table levels answer table' levels'
    unfolding later operation provided bind
    left_named there answer table' levels' left =
        rw (later_is, named.matrices, named.adjoined, other_named ∙ found_table readable h there) left
