-- Question 4 over the ingredients one after the other: what is found of one, and what is left to ask.
-- Assumes nothing.
use mathlib.Core.Path.{◌≡◌, refl, sym, ◌∙◌}
use mathlib.Core.List.{List, [], ◌∷◌}
use mathlib.Core.Option.{Option, none, some, bind}
use Prim.Native.Nat.{ℕ, zero, suc, ◌+◌, ◌≤◌, ◌<◌}
use native.Mathlib.Numerals.{add-one}
use native.Mathlib.Omega.{arith}
use lib.ListN.{length, drop, get_elem?, drop_of_length-le}
use Rattle.std.specs.Prelude.{Result, Ok, Err, Some, None}
use Rattle.finite.specs.First.{◌or_else◌}
use Rattle.counting.specs.Verdict.{table_verdict, matrix_verdict}
use Rattle.counting.specs.GeneratorVerdict.{generator_verdict}
use Rattle.counting.specs.declared.verdict.TableVerdict.{TableVerdict}
use Rattle.counting.specs.declared.verdict.DifferenceFault.{DifferenceFault}
use Rattle.counting.specs.declared.verdict.DependenceFault.{DependenceFault}
use Rattle.order.specs.Order.{Ingredient, Order}
use Rattle.order.specs.Reader.{Parsed, value, refused as unread}
use Rattle.order.specs.Grammar.{read_order, Reads}
use Rattle.order.specs.declared.Located.TheVariants.{Table as TableAt, Matrix as MatrixAt, Generator as GeneratorAt}
use Rattle.order.specs.Range.{EntriesInRange, range_of}
use Rattle.order.proofs.OrderLaw.{read_to_end}
use Rattle.order.proofs.InRange.{range_iff}
use Rattle.places.specs.Places.{ingredient_at, ingredient_count}
use Rattle.places.proofs.Stands.{ingredient_described}
use Rattle.sheets.specs.Outcome.{table_refusal, matrix_refusal, generator_refusal, ingredient_refusal, ingredients_refusal}
use Rattle.sheets.specs.declared.answer.Refusal.{Refusal}
use Rattle.ingredients.specs.Named.{table_in, matrix_in, generator_in}
use Rattle.question_4.specs.Passing.{passing_of, refusal_at, passing_in}
use Rattle.ingredients.specs.declared.named.NamedTable.TheVariants.{Own}

-- ---- a list whose entries are in range reads as an order

range_order : {C : Type 0} (p : Parsed Order) → range_of p ≡ Ok tt → ((o : Order) (next : ℕ) → p ≡ value o next → C) → C
unfolding range_of
range_order (value o next) e found = found o next refl
range_order (unread place) e found = cc

pub readable : {C : Type 0} (list : List ℕ) → range_of (read_order list) ≡ Ok tt → ((o : Order) → Reads list o → EntriesInRange o → C) → C
readable list e found =
    range_order (read_order list) e λ o next v.
    let reads = read_to_end list o next v in
    found o reads ((range_iff list o reads).0 e)

-- ---- one ingredient, by what the look-up finds

-- An answer that comes of a verdict, where the verdict is the one on the ingredient that the look-up finds.
module _ (list : List ℕ) (i : ℕ) {r : Result (Unit {0}) Refusal} where
  pub table_answer : {rows columns levels_at entries_at : ℕ} {verdict : TableVerdict} → ingredient_at (read_order list) i ≡ Some (TableAt rows columns levels_at entries_at) → verdict ≡ table_verdict (table_in list (Own rows columns levels_at entries_at)) → r ≡ passing_of (table_refusal i verdict.finding) → r ≡ passing_of (refusal_at list i)
  unfolding refusal_at bind ingredient_refusal table_in
  table_answer e v h = rw (e, ← v) h

  pub matrix_answer : {rows columns p entries_at : ℕ} {finding : Result (Unit {0}) DifferenceFault} → ingredient_at (read_order list) i ≡ Some (MatrixAt rows columns p entries_at) → finding ≡ matrix_verdict (matrix_in list rows columns p entries_at) → r ≡ passing_of (matrix_refusal i finding) → r ≡ passing_of (refusal_at list i)
  unfolding refusal_at bind ingredient_refusal
  matrix_answer e v h = rw (e, ← v) h

  pub generator_answer : {t n s widths_at width entries_at : ℕ} {finding : Result (Unit {0}) DependenceFault} → ingredient_at (read_order list) i ≡ Some (GeneratorAt t n s widths_at width entries_at) → finding ≡ generator_verdict (generator_in list t n s widths_at width entries_at) → r ≡ passing_of (generator_refusal i finding) → r ≡ passing_of (refusal_at list i)
  unfolding refusal_at bind ingredient_refusal
  generator_answer e v h = rw (e, ← v) h

pub missing_answer : (list : List ℕ) (i : ℕ) → ingredient_at (read_order list) i ≡ None → Ok tt ≡ passing_of (refusal_at list i)
unfolding refusal_at bind passing_of
missing_answer list i e = rw e

-- ---- all of them

-- what is left to ask after k ingredients
unfoldable pub rest_of : Parsed Order → ℕ → Option Refusal
rest_of (value o end) k = ingredients_refusal (suc k) (drop k o.ingredients)
rest_of (unread place) k = none

pub rest_all : (p : Parsed Order) → passing_of (rest_of p 0) ≡ passing_in p
unfolding rest_of passing_in
rest_all (value o end) = refl
rest_all (unread place) = refl

-- none is left after the last
pub rest_none : (p : Parsed Order) (k : ℕ) → ingredient_count p ≤ k → rest_of p k ≡ none
unfolding rest_of ingredient_count ingredients_refusal
rest_none (value o end) k h = rw (drop_of_length-le o.ingredients h)
rest_none (unread place) k h = refl

refusal_next : (gs : List Ingredient) (k j : ℕ) → k < length gs → ingredients_refusal j (drop k gs) ≡ (bind (get_elem? gs k) (ingredient_refusal j) or_else ingredients_refusal (j + 1) (drop (suc k) gs))
unfolding ingredients_refusal bind
refusal_next [] k j h = absurd (omega arith)
refusal_next (g ∷ gs) zero j h = refl
refusal_next (g ∷ gs) (suc k) j h = refusal_next gs k j (omega arith)

-- the next ingredient, and then the rest
pub rest_next : (list : List ℕ) (o : Order) → Reads list o → (k : ℕ) → k < ingredient_count (read_order list) → rest_of (read_order list) k ≡ (refusal_at list (k + 1) or_else rest_of (read_order list) (k + 1))
unfolding rest_of refusal_at ingredient_count
rest_next list o reads k h =
    let below : k < length o.ingredients = rw reads at h in
    rw (add-one, ingredient_described list o reads k, reads) (refusal_next o.ingredients k (suc k) below ∙ rw (add-one (suc k)))

-- an answer, and what is asked after it
pub failing_first : (a b : Option Refusal) {why : Refusal} → passing_of a ≡ Err why → Err why ≡ passing_of (a or_else b)
unfolding passing_of
failing_first none b e = cc
failing_first (some x) b e = sym e

pub passing_first : (a b : Option Refusal) → passing_of a ≡ Ok tt → passing_of (a or_else b) ≡ passing_of b
unfolding passing_of
passing_first none b e = refl
passing_first (some x) b e = cc
