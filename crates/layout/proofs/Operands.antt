-- A step that stands in the list: what it comes to is asked of its operands, which lie within the list and keep the limits of an order; and the
-- table that an operand names is what the look-up finds.
-- Assumes nothing.
use Rattle.std.specs.Prelude.{Some, None}
use mathlib.Core.Path.{◌≡◌, refl, sym, ◌∙◌, ap}
use mathlib.Core.Logic.{◌⊎◌, ⊎_elim}
use mathlib.Core.List.{List}
use mathlib.Core.Option.{some}
use Prim.Native.Nat.{ℕ, zero, suc, ◌+◌, ◌≤◌, ◌<◌}
use native.Mathlib.Omega.{arith}
use lib.ListN.{length, get_elem?}
use denote.Enum.Declared.{tag_of}
use Rattle.counting.specs.Table.{Table}
use Rattle.order.specs.Order.{Order, Step, TAKE, FIELD, SUM, MERGE, SPLIT, CROSS, IngredientNumber, StepLimits, written_step}
use Rattle.order.specs.Grammar.{read_order}
use Rattle.order.specs.Answers.{kind_of}
use Rattle.order.proofs.Segment.{Segment, segment_in}
use Rattle.order.proofs.OrderLaw.{reads_iff}
use Rattle.places.specs.Places.{step_at, operands_of, step_in}
use Rattle.order.specs.declared.Stage.{Stage}
use Rattle.places.proofs.Stands.{step_stands, step_described}
use Rattle.sheets.specs.Ingredients.{table_named}
use Rattle.sheets.specs.Steps.{Outcome, first_step, later_step}
use Rattle.ingredients.specs.Named.{named_table, table_in, Legible, some_table}
use Rattle.ingredients.specs.declared.named.NamedTable.{NamedTable}
use Rattle.ingredients.specs.declared.named.NamedTable.TheVariants.{Own, House, Missing}
use Rattle.ingredients.specs.contracts.named.NamedTable.{the_type}
use Rattle.ingredients.proofs.NamedLaws.{table_named_lem, named_legible, named_limits, TableLimits}
use Rattle.layout.specs.Step.{Readable, Stands, in_order, first_in, later_in}

-- every step has an operand
operand_there : (s : Step) → 2 ≤ length (written_step s)
operand_there (TAKE i) = omega arith
operand_there (FIELD i) = omega arith
operand_there (SUM ds k) = omega arith
operand_there (MERGE p cs) = omega arith
operand_there (SPLIT c i) = omega arith
operand_there (CROSS ds k h) = omega arith

not_missing : (s : Stage) → None ≡ Some s → ⊥
not_missing s e = let z : ◌≡◌ {A = ℕ} 0 1 = cc in omega arith

same_stage : {s s' : Stage} → Some s ≡ Some s' → s ≡ s'
same_stage e = cc

module _ {list : List ℕ} (readable : Readable list) where
  open readable use {order as o, reads}

  pub list_short : length list ≤ 32768
  list_short = ((reads_iff list o).0 reads).0

  -- ---- steps

  -- there is no step number 0
  step_zero : step_at (read_order list) 0 ≡ None
  unfolding step_at
  step_zero = rw reads

  -- the step that stands with its operands from place at on: its kind, its limits, and where its numbers are
  pub stands_step : {C : Type 0} {kind at : ℕ} → Stands list kind at
      → ((place after : ℕ) → kind ≡ kind_of (operands_of list kind at) → at ≡ place + 1 → StepLimits (operands_of list kind at)
      → Segment list place (written_step (operands_of list kind at)) after → C)
      → C
  stands_step {C} {kind} {at} stands found = go stands.number stands.found
    where
      go : (n : ℕ) → step_at (read_order list) n ≡ Some (record { kind = kind; operands_at = at }) → C
      go zero e = absurd (not_missing (record { kind = kind; operands_at = at }) (sym step_zero ∙ e))
      go (suc k) e =
          let here : get_elem? o.steps k ≡ some (operands_of list kind at) = sym (step_described list o reads k) ∙ ap (step_in list) e in
          step_stands list o reads k (operands_of list kind at) here λ place after same limits s.
          let both = same_stage (sym e ∙ same) in
          found place after (ap (λ t. t.kind) both) (ap (λ t. t.operands_at) both) limits s

  -- its operands are within their limits
  pub operands_limits : {kind at : ℕ} → Stands list kind at → StepLimits (operands_of list kind at)
  operands_limits stands = stands_step stands λ place after same there limits s. limits

  -- its first operand stands in the list
  pub operand_in : {kind at : ℕ} → Stands list kind at → at < length list
  operand_in {kind} {at} stands =
      stands_step stands λ place after same there limits s.
      rw there (segment_in s 1 (operand_there (operands_of list kind at)))

-- ingredients are numbered from 1
pub number_from_one : (i : ℕ) → IngredientNumber i → 1 ≤ i
number_from_one i h = ⊎_elim (λ w. omega arith) (λ w. omega arith) h

module _ {list : List ℕ} (readable : Readable list) where
  -- ---- what the step comes to

  pub in_order_lem : (come : Order → Outcome) → in_order list come ≡ come readable.order
  unfolding in_order
  in_order_lem come = rw readable.reads

  module _ (kind at : ℕ) where
    pub first_in_lem : first_in list kind at ≡ first_step readable.order (operands_of list kind at)
    unfolding first_in
    first_in_lem = in_order_lem _

    pub later_in_lem : (n : ℕ) (S : Table) → later_in list n S kind at ≡ later_step readable.order n S (operands_of list kind at)
    unfolding later_in
    later_in_lem n S = in_order_lem _

    pub operands_stand : Stands list kind at → {C : Type 0} → ((place after : ℕ) → at ≡ place + 1 → StepLimits (operands_of list kind at) → Segment list place (written_step (operands_of list kind at)) after → C) → C
    operands_stand stands go = stands_step readable stands λ place after same there limits s. go place after there limits s

  -- ---- a table that is named

  module _ (i : ℕ) (number : IngredientNumber i) where
    pub named_is : table_named readable.order i ≡ some_table list (named_table (read_order list) i)
    named_is = table_named_lem list readable.order readable.reads i (number_from_one i number)

    pub legible_table : Legible list (named_table (read_order list) i)
    legible_table = named_legible list readable.order readable.reads readable.in_range i (number_from_one i number)

    pub table_limits : TableLimits (table_in list (named_table (read_order list) i))
    table_limits = named_limits list readable.order readable.reads readable.in_range i (number_from_one i number)

-- one that is not missing, as a `match` knows it
pub some_named : (list : List ℕ) (N : NamedTable) → (tag_of the_type N ≡ 0) ⊎ (tag_of the_type N ≡ 1) → some_table list N ≡ some (table_in list N)
unfolding some_table
some_named list (Own rows width levels_at entries_at) e = refl
some_named list (House number) e = refl
some_named list Missing e = absurd (⊎_elim (λ w. omega arith) (λ w. omega arith) e)
