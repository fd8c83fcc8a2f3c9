-- `entry_range::first_out_of_range_among` meets its contract. The invariant: the walk from the cursor on gives the answer of the whole. An ingredient that was
-- read stands in the list, so what the search finds in the list is what the definition finds in the ingredient.
use mathlib.Core.Path.{◌≡◌, sym, ◌∙◌}
use mathlib.Core.List.{List}
use Prim.Native.Nat.{ℕ, ◌+◌}
use Rattle.std.specs.Prelude.{Result}
use Rattle.std.proofs.lemmas.Result.{err_from_is_err_and}
use Rattle.order.specs.Order.{Ingredient}
use Rattle.order.specs.Reader.{value}
use Rattle.order.specs.Grammar.{read_ingredient}
use Rattle.order.specs.Answers.{located}
use Rattle.order.specs.declared.Located.{Located}
use Rattle.order.specs.Range.{ingredient_range}
use Rattle.order.specs.declared.RangeFault.{RangeFault}
use Rattle.order.proofs.Answers.{spot_value, spot_refused}
use Rattle.order.proofs.IngredientLaw.{ingredient_law}
use Rattle.entry_range.specs.Search.{located_range}
use Rattle.entry_range.proofs.Ranges.{located_inside, located_same, scanned_on, scanned_fault, scanned_refused, scanned_done}
use Rattle.entry_range.proofs.first_out_of_range_among.Goals as goal

-- What the search among the entries of the ingredient that was read says of it.
range_read : (list : List ℕ) (at : ℕ) (what : Located) (g : Ingredient) {next : ℕ} → what ≡ located (at + 3) g → read_ingredient list at ≡ value g next → {r r' : Result (Unit {0}) RangeFault} → r ≡ located_range list what → r ≡ r' → ingredient_range (at + 3) g ≡ r'
range_read list at what g same e h k =
    let read = ingredient_law.sound _ _ g _ e in
    sym (located_same _ _ g _ read.0 read.1) ∙ rw (← same) (sym h ∙ k)

pub located_range-requires : goal.located_range-requires
located_range-requires c =
    spot_value _ _ (sym c.ingredient.ensures ∙ c.in_ok-what.was) λ g same e.
    let read = ingredient_law.sound _ _ g _ e in
    rw same (located_inside _ _ g _ read.0 read.1)

pub returns-in_err-what : goal.returns-in_err-what
returns-in_err-what c =
    let out = err_from_is_err_and c.from_residual.result c.from_residual.ensures.1 in
    let e = spot_refused _ _ (sym c.ingredient.ensures ∙ c.in_err-what.was) in
    rw (out.1, out.2) (sym (scanned_refused _ _ c.args.n c.loop.counter c.loop-test.true e) ∙ c.loop.invariant)

pub returns-in_err-located_range : goal.returns-in_err-located_range
returns-in_err-located_range c =
    let out = err_from_is_err_and c.from_residual-in_err-located_range.result c.from_residual-in_err-located_range.ensures.1 in
    spot_value _ _ (sym c.ingredient.ensures ∙ c.in_ok-what.was) λ g same e.
    let fault = range_read _ _ _ g same e c.located_range.ensures c.in_err-located_range.was in
    rw (out.1, out.2) (sym (scanned_fault _ _ c.args.n c.loop.counter c.loop-test.true e fault) ∙ c.loop.invariant)

pub loop-preserved : goal.loop-preserved
loop-preserved c =
    spot_value _ _ (sym c.ingredient.ensures ∙ c.in_ok-what.was) λ g same e.
    let passes = range_read _ _ _ g same e c.located_range.ensures c.in_ok-located_range.was in
    sym (scanned_on _ _ c.args.n c.loop.counter c.loop-test.true e passes) ∙ c.loop.invariant

pub returns : goal.returns
returns c = sym (scanned_done _ _ c.args.n c.loop.counter c.loop-test.false) ∙ c.loop.invariant
