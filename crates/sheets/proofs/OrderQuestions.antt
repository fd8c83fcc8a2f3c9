-- What questions 2 to 4 answer: an order that was read ends with its list, question 3 is asked of it, and question 4 refuses no ingredient exactly where
-- each meets its published definition.
-- Assumes nothing.
use mathlib.Core.Path.{◌≡◌, refl, ap}
use mathlib.Core.Logic.{◌↔◌, ◌≢◌}
use mathlib.Core.Bool.{Bool, true, false}
use mathlib.Core.List.{List, [], ◌∷◌}
use mathlib.Core.Option.{Option, none, some, some-ne-none}
use Prim.Native.Nat.{ℕ, zero, suc, ◌+◌, ◌<◌}
use native.Mathlib.Omega.{arith}
use lib.Dec.{ltb}
use lib.ListN.{length, get_or}
use Rattle.std.specs.Prelude.{Result, Ok, Err}
use Rattle.finite.specs.First.{◌or_else◌}
use Rattle.counting.specs.Table.{table_of}
use Rattle.counting.specs.Matrix.{matrix_of}
use Rattle.counting.specs.Generator.{generator_of}
use Rattle.counting.specs.declared.verdict.TableFault.TheVariants.{Column, Pair}
use Rattle.counting.proofs.TableVerdicts.{table_passes}
use Rattle.counting.proofs.MatrixVerdicts.{matrix_passes}
use Rattle.counting.proofs.GeneratorVerdicts.{generator_passes}
use Rattle.counting.specs.declared.verdict.TableFault.{TableFault}
use Rattle.counting.specs.declared.verdict.DifferenceFault.{DifferenceFault}
use Rattle.counting.specs.declared.verdict.DependenceFault.{DependenceFault}
use Rattle.order.specs.Order.{Ingredient, table, matrix, generator, Order, All, IngredientLimits, written_ingredient, entries_of}
use Rattle.order.specs.Reader.{Parsed, value, refused as unread, when, continue}
use Rattle.order.specs.Grammar.{at_end, read_parts, read_order}
use Rattle.order.specs.Answers.{entries_from}
use Rattle.order.specs.Range.{bound, first_failing, ingredient_range, earlier, ingredients_range}
use Rattle.order.specs.declared.RangeFault.{RangeFault}
use Rattle.order.specs.declared.RangeFault.TheVariants.{OutOfRange, Unread}
use Rattle.sheets.specs.Outcome.{range_refusal, table_refusal, matrix_refusal, generator_refusal, ingredient_refusal, ingredients_refusal}
use Rattle.sheets.specs.Fillable.{MeetsDefinition}

-- ---- answers that differ

unread_not_value : {place end : ℕ} {o : Order} → unread place ≡ value o end → ⊥
unread_not_value e = let z : ◌≡◌ {A = ℕ} 0 1 = cc in omega arith

in_range_asked : ◌≢◌ {A = Result (Unit {0}) RangeFault} (Ok tt) (Err Unread)
in_range_asked e = let z : ◌≡◌ {A = ℕ} 0 1 = cc in omega arith

out_of_range_asked : {place : ℕ} → ◌≢◌ {A = Result (Unit {0}) RangeFault} (Err (OutOfRange place)) (Err Unread)
out_of_range_asked e = let z : ◌≡◌ {A = ℕ} 0 1 = cc in omega arith

-- ---- question 2

-- an order that was read ends with the list
ends : (list : List ℕ) (b : Bool) (r : Parsed Order) (o : Order) (end : ℕ)
    → when b (unread 32768) (continue r (λ a next. at_end a list next)) ≡ value o end → end ≡ length list
ends list true r o end e = absurd (unread_not_value e)
ends list false (unread place) o end e = absurd (unread_not_value e)
ends list false (value a next) o end e = ends_at (ltb next (length list)) e
  where
    ends_at : (c : Bool) → when c (unread next) (value a (length list)) ≡ value o end → end ≡ length list
    ends_at true f = absurd (unread_not_value f)
    ends_at false f = cc

pub reads_whole : (list : List ℕ) (o : Order) (end : ℕ) → read_order list ≡ value o end → end ≡ length list
unfolding read_order
reads_whole list o end e = ends list (ltb 32768 (length list)) (read_parts list 0) o end e

-- ---- question 3

when_asked : (b : Bool) (x y : Result (Unit {0}) RangeFault) → x ≢ Err Unread → y ≢ Err Unread → when b x y ≢ Err Unread
when_asked true x y h k = h
when_asked false x y h k = k

failing_asked : (ok : ℕ → Bool) (start left q : ℕ) → first_failing ok start left q ≢ Err Unread
failing_asked ok start zero q = in_range_asked
failing_asked ok start (suc left) q = when_asked (ok q) _ _ (failing_asked ok start left (q + 1)) out_of_range_asked

earlier_asked : (x y : Result (Unit {0}) RangeFault) → x ≢ Err Unread → y ≢ Err Unread → earlier x y ≢ Err Unread
earlier_asked (Ok asked) y h k = k
earlier_asked (Err fault) y h k = h

ingredient_asked : (from : ℕ) (g : Ingredient) → ingredient_range from g ≢ Err Unread
unfolding ingredient_range
ingredient_asked from g =
    failing_asked (λ q. ltb (get_or (entries_of g) q 0) (bound g q)) (entries_from from g) (length (entries_of g)) 0

-- the question is asked of every order that was read
pub range_asked : (at : ℕ) (gs : List Ingredient) → ingredients_range at gs ≢ Err Unread
range_asked at [] = in_range_asked
range_asked at (g ∷ gs) = earlier_asked (ingredient_range (at + 3) g) _ (ingredient_asked (at + 3) g) (range_asked (at + length (written_ingredient g)) gs)

pub range_passes : (x : Result (Unit {0}) RangeFault) → x ≢ Err Unread → range_refusal x ≡ none → x ≡ Ok tt
unfolding range_refusal
range_passes (Ok tt) h e = refl
range_passes (Err (OutOfRange place)) h e = absurd (some-ne-none _ e)
range_passes (Err Unread) h e = absurd (h refl)

-- ---- question 4

table_passed : (i : ℕ) (f : Result (Unit {0}) TableFault) → table_refusal i f ≡ none → f ≡ Ok tt
unfolding table_refusal
table_passed i (Ok tt) e = refl
table_passed i (Err (Column c x times)) e = absurd (some-ne-none _ e)
table_passed i (Err (Pair c d x y times)) e = absurd (some-ne-none _ e)

matrix_passed : (i : ℕ) (f : Result (Unit {0}) DifferenceFault) → matrix_refusal i f ≡ none → f ≡ Ok tt
unfolding matrix_refusal
matrix_passed i (Ok tt) e = refl
matrix_passed i (Err fault) e = absurd (some-ne-none _ e)

generator_passed : (i : ℕ) (f : Result (Unit {0}) DependenceFault) → generator_refusal i f ≡ none → f ≡ Ok tt
unfolding generator_refusal
generator_passed i (Ok tt) e = refl
generator_passed i (Err fault) e = absurd (some-ne-none _ e)

-- an ingredient is not refused exactly where it meets its definition
pub ingredient_decides : (i : ℕ) (g : Ingredient) → IngredientLimits g → (ingredient_refusal i g ≡ none) ↔ MeetsDefinition g
unfolding ingredient_refusal MeetsDefinition table_refusal matrix_refusal generator_refusal generator_of
ingredient_decides i (table rows levels entries) limits =
    let A = table_of entries levels rows in (
      λ e. (table_passes A).0 (table_passed i _ e),
      λ m. ap (table_refusal i) ((table_passes A).1 m),
    )
ingredient_decides i (matrix rows columns p entries) limits =
    let D = matrix_of entries rows columns p in
    (λ e. (matrix_passes D).0 (matrix_passed i _ e), λ m. ap (matrix_refusal i) ((matrix_passes D).1 m))
ingredient_decides i (generator t s widths entries) limits =
    let G = generator_of entries t s widths in
    let positive : 0 < s = omega (arith, limits.2.0) in
    (λ e. (generator_passes G positive).0 (generator_passed i _ e), λ m. ap (generator_refusal i) ((generator_passes G positive).1 m))

or_else_none : {A : Type 0} (x y : Option A) → ((x or_else y) ≡ none) ↔ ((x ≡ none) × (y ≡ none))
or_else_none none y = (λ e. (refl, e), λ p. p.1)
or_else_none (some a) y = (λ e. absurd (some-ne-none a e), λ p. p.0)

pub ingredients_decide : (i : ℕ) (gs : List Ingredient) → All IngredientLimits gs → (ingredients_refusal i gs ≡ none) ↔ All MeetsDefinition gs
unfolding ingredients_refusal
ingredients_decide i [] limits = (λ e. tt, λ all. refl)
ingredients_decide i (g ∷ gs) limits =
    let here = ingredient_decides i g limits.0 in
    let rest = ingredients_decide (i + 1) gs limits.1 in
    let both = or_else_none (ingredient_refusal i g) (ingredients_refusal (i + 1) gs) in (
      λ e. (here.0 (both.0 e).0, rest.0 (both.0 e).1),
      λ all. both.1 (here.1 all.0, rest.1 all.1),
    )
