-- The readers of ingredients, steps and orders refuse at once. Some number passes each test: of the sizes of fields 2, since 2^9 is 512; of widths 1.
-- Assumes nothing.
use mathlib.Core.Path.{◌≡◌, refl}
use mathlib.Core.Bool.{Bool, true, false}
use mathlib.Core.List.{List}
use Prim.Native.Nat.{ℕ, ◌+◌, ◌*◌, ◌≤◌}
use native.Mathlib.Nat.{pow-le-pow_left, pow-le-pow_right, le_trans}
use native.Mathlib.Omega.{arith}
use borrow.Author.Tests.{eqb-false}
use lib.Dec.{eqb, lit≤}
use Rattle.order.specs.Order.{table, matrix, generator, Step, TAKE, FIELD, SUM, MERGE, SPLIT, CROSS, total, GeneratorField, FactorWidth}
use Rattle.order.specs.Reader.{Reader, when, allowed}
use Rattle.order.specs.Grammar.{generator_field, factor_width, merge_prime, ingredient_number, none_or_ingredient, most_rows}
use Rattle.order.specs.Grammar.{table_body, matrix_body, generator_body, read_ingredient, read_naming, sum_operands, read_sum, read_merge, read_split, read_cross, read_step, read_parts}
use Rattle.order.proofs.Tests.{generator_field_iff, factor_width_iff}
use Rattle.order.proofs.Law.{Law}
use Rattle.order.proofs.ByKind.{between_law}
use Rattle.order.proofs.IngredientLaw.{generator_field_law}
use Rattle.order_causes.proofs.Prefix.{RefusesAtOnce, Gives, give_at_once, bind_at_once, repeated_at_once, when_at_once}
use Rattle.order_causes.proofs.Numbers.{allowed_at_once, between_at_once, counted_at_once, numbers_at_once}

-- What a reader with a law gives is within the law's limits.
within : {A : Type 0} {r : Reader A} {P : A → Type 0} {w : A → List ℕ} → Law r P w → (a : A) → Gives r a → P a
within law a (list, at, next, e) = (law.sound list at a next e).0

table_at_once : (rows columns : ℕ) → RefusesAtOnce (table_body rows columns)
unfolding table_body
table_at_once rows columns =
    bind_at_once (repeated_at_once (between_at_once 2 64 (omega arith)) columns) λ levels g.
    bind_at_once (numbers_at_once (rows * columns)) λ entries g'. give_at_once (table rows levels entries)

matrix_at_once : (rows columns : ℕ) → RefusesAtOnce (matrix_body rows columns)
unfolding matrix_body
matrix_at_once rows columns =
    bind_at_once (between_at_once 2 64 (omega arith)) λ p g.
    bind_at_once (numbers_at_once (rows * columns)) λ entries g'. give_at_once (matrix rows columns p entries)

generator_at_once : (t n : ℕ) → t ≤ 9 → RefusesAtOnce (generator_body t n)
unfolding generator_body
generator_at_once t n few =
    let two : GeneratorField t 2 = (omega arith, (λ e. omega arith), le_trans (pow-le-pow_right {n = 2} (omega arith) few) (lit≤ tt)) in
    bind_at_once (allowed_at_once (generator_field t) 2 ((generator_field_iff t 2).1 two)) λ s g.
    let size = within (generator_field_law t) s g in
    let one : FactorWidth s 1 = (omega arith, le_trans (pow-le-pow_left size.0.1 1) (lit≤ tt)) in
    bind_at_once (repeated_at_once (allowed_at_once (factor_width s) 1 ((factor_width_iff s 1).1 one)) n) λ widths g'.
    bind_at_once (numbers_at_once (t * total widths)) λ entries g''. give_at_once (generator t s widths entries)

ingredient_at_once : RefusesAtOnce read_ingredient
unfolding read_ingredient
ingredient_at_once =
    bind_at_once (between_at_once 1 3 (omega arith)) λ kind g.
    let a_kind = within (between_law 1 3) kind g in
    bind_at_once (between_at_once 1 (most_rows kind) (some_rows (eqb kind 3))) λ rows g₁.
    let few = (within (between_law 1 (most_rows kind)) rows g₁).1 in
    bind_at_once (between_at_once 1 128 (omega arith)) λ columns g₂.
    when_at_once (eqb kind 1) (λ e. table_at_once rows columns) λ not_1.
    when_at_once (eqb kind 2) (λ e. matrix_at_once rows columns) λ not_2.
    let k : kind ≡ 3 = omega (arith, eqb-false kind 1 not_1, eqb-false kind 2 not_2) in
    generator_at_once rows columns (rw k at few)
  where
    some_rows : (b : Bool) → 1 ≤ when b 9 512
    some_rows true = omega arith
    some_rows false = omega arith

-- The steps. Ingredient 1 can be named wherever one is, and 0, for none, as the k of SUM and of CROSS.
named_at_once : RefusesAtOnce (allowed ingredient_number)
named_at_once = allowed_at_once ingredient_number 1 refl

naming_at_once : (step : ℕ → Step) → RefusesAtOnce (read_naming step)
unfolding read_naming
naming_at_once step = bind_at_once named_at_once λ i g. give_at_once (step i)

sum_operands_at_once : RefusesAtOnce sum_operands
sum_operands_at_once =
    bind_at_once (counted_at_once 1 16 (omega arith) named_at_once) λ ds g.
    bind_at_once (allowed_at_once none_or_ingredient 0 refl) λ k g'. give_at_once (ds, k)

sum_at_once : RefusesAtOnce read_sum
unfolding read_sum
sum_at_once = bind_at_once sum_operands_at_once λ operands g. give_at_once (SUM operands.0 operands.1)

merge_at_once : RefusesAtOnce read_merge
unfolding read_merge
merge_at_once =
    bind_at_once (allowed_at_once merge_prime 2 refl) λ p g.
    bind_at_once (repeated_at_once (between_at_once 1 128 (omega arith)) (p + 1)) λ cs g'. give_at_once (MERGE p cs)

split_at_once : RefusesAtOnce read_split
unfolding read_split
split_at_once =
    bind_at_once (between_at_once 1 128 (omega arith)) λ c g.
    bind_at_once named_at_once λ i g'. give_at_once (SPLIT c i)

cross_at_once : RefusesAtOnce read_cross
unfolding read_cross
cross_at_once =
    bind_at_once sum_operands_at_once λ operands g.
    bind_at_once named_at_once λ h g'. give_at_once (CROSS operands.0 operands.1 h)

step_at_once : RefusesAtOnce read_step
unfolding read_step
step_at_once =
    bind_at_once (between_at_once 1 6 (omega arith)) λ kind g.
    when_at_once (eqb kind 1) (λ e. naming_at_once TAKE) λ not_1.
    when_at_once (eqb kind 2) (λ e. naming_at_once FIELD) λ not_2.
    when_at_once (eqb kind 3) (λ e. sum_at_once) λ not_3.
    when_at_once (eqb kind 4) (λ e. merge_at_once) λ not_4.
    when_at_once (eqb kind 5) (λ e. split_at_once) λ not_5. cross_at_once

pub parts_at_once : RefusesAtOnce read_parts
unfolding read_parts
parts_at_once =
    bind_at_once (counted_at_once 0 32 (omega arith) ingredient_at_once) λ ingredients g.
    bind_at_once (counted_at_once 1 16 (omega arith) step_at_once) λ steps g'.
    give_at_once (record { ingredients = ingredients; steps = steps })
