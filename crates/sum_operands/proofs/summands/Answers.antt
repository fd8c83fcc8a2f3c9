-- `summands` meets its contract: question 5 of the matrices, and then of k.
use mathlib.Core.Path.{◌≡◌, sym, ◌∙◌, ap}
use mathlib.Core.Logic.{◌⊎◌, inl, inr}
use mathlib.Core.Bool.{true, false}
use lib.Dec.{ltb}
use Rattle.std.specs.Prelude.{Some}
use Rattle.order.specs.Grammar.{read_order}
use Rattle.places.specs.Places.{matrices_from, adjoined_from}
use Rattle.step_tables.specs.Lists.{all_of}
use Rattle.ingredients.specs.Named.{named_table}
use Rattle.sum_bytes.specs.Summing.{matrix_at, is_missing}
use Rattle.sum_bytes.proofs.Sums.{part_same}
use Rattle.sum_bytes.proofs.SumNames.{matrix_missing, table_missing, all_there}
use Rattle.sum_operands.proofs.summands.Goals as goal
use Rattle.sum_operands.proofs.summands.Goals.{else-last-ne0-via-then-last-ne0+else-is_missing, else-last-ne0-via-else-last-ne0}

pub returns-then-not-all_name_matrices : goal.returns-then-not-all_name_matrices
returns-then-not-all_name_matrices c = matrix_missing _ _ (sym (c.if-not-all_name_matrices.true) ∙ rw part_same at c.all_name_matrices.ensures)

pub returns-then-is_missing : goal.returns-then-is_missing
returns-then-is_missing c =
    let named : true ≡ all_of (λ d. ltb 0 (matrix_at c.args.list.now d).rows) (matrices_from c.args.list.now c.args.at) =
    sym (c.if-not-all_name_matrices.false) ∙ rw part_same at c.all_name_matrices.ensures
    in
    table_missing _ _ named c.if-last-ne0.true
    (sym (ap is_missing c.table_named-k.ensures) ∙ sym c.is_missing.ensures ∙ c.if-is_missing.true)

pub returns : goal.returns
returns c =
    let named : true ≡ all_of (λ d. ltb 0 (matrix_at c.args.list.now d).rows) (matrices_from c.args.list.now c.args.at) =
    sym (c.if-not-all_name_matrices.false) ∙ rw part_same at c.all_name_matrices.ensures
    in
    let either : (adjoined_from c.args.list.now c.args.at ≡ 0) ⊎ (is_missing (named_table (read_order c.args.list.now) (adjoined_from c.args.list.now c.args.at)) ≡ false) =
    elim c.else-last-ne0.branch [
      | else-last-ne0-via-then-last-ne0+else-is_missing w ↦ inr (sym (ap is_missing c.table_named-k.ensures) ∙ sym w.is_missing.ensures ∙ w.if-is_missing.false)
      | else-last-ne0-via-else-last-ne0 w ↦ inl w.if-last-ne0.false
    ]
    in
    ap Some c.table_named-k.ensures ∙ all_there _ _ named either
