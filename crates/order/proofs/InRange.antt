-- Question 3: the definition's answer is that all entries are in range exactly where every entry is.
use mathlib.Core.Path.{◌≡◌, refl}
use Rattle.std.specs.Prelude.{Result, Ok, Err}
use mathlib.Core.Logic.{◌↔◌}
use mathlib.Core.Bool.{Bool}
use mathlib.Core.List.{List, [], ◌∷◌}
use Prim.Native.Nat.{ℕ, ◌+◌, ◌<◌}
use native.Mathlib.Nat.{zero-add}
use native.Mathlib.Omega.{arith}
use borrow.Author.Tests.{lt-ltb, ltb-true}
use lib.Dec.{ltb}
use lib.ListN.{length, get_or}
use Rattle.order.specs.Order.{Ingredient, Order, All, written_ingredient, entries_of}
use Rattle.order.specs.Grammar.{read_order, Reads}
use Rattle.order.specs.Answers.{entries_from}
use Rattle.order.specs.Range.{bound, EntriesInRange, ingredient_range, earlier, ingredients_range, range_of}
use Rattle.order.specs.declared.RangeFault.{RangeFault}
use Rattle.order.proofs.Failing.{failing_none}

-- An answer that goes on is in range where both are.
or_iff : (a b : Result (Unit {0}) RangeFault) → (earlier a b ≡ Ok tt) ↔ (a ≡ Ok tt) × (b ≡ Ok tt)
or_iff (Ok tt) b = (λ e. (refl, e), λ h. h.1)
or_iff (Err fault) b = (λ e. absurd (let z : ◌≡◌ {A = ℕ} 0 1 = cc in omega arith), λ h. h.0)

abbrev pub Within : Ingredient → Type 0
Within g = (q : ℕ) → q < length (entries_of g) → get_or (entries_of g) q 0 < bound g q

pub ingredient_iff : (from : ℕ) (g : Ingredient) → (ingredient_range from g ≡ Ok tt) ↔ Within g
unfolding ingredient_range
ingredient_iff from g =
    let ok : ℕ → Bool = λ q. ltb (get_or (entries_of g) q 0) (bound g q) in
    let all = failing_none ok (entries_from from g) (length (entries_of g)) 0 in (
      λ e q h. ltb-true _ _ (rw zero-add at (all.0 e q h)),
      λ h. all.1 (λ q below. rw zero-add (lt-ltb _ _ (h q below))),
    )

ingredients_iff : (at : ℕ) (gs : List Ingredient) → (ingredients_range at gs ≡ Ok tt) ↔ All Within gs
ingredients_iff at [] = (λ e. tt, λ h. refl)
ingredients_iff at (g ∷ gs) =
    let one = ingredient_iff (at + 3) g in
    let rest = ingredients_iff (at + length (written_ingredient g)) gs in
    let both = or_iff (ingredient_range (at + 3) g) (ingredients_range (at + length (written_ingredient g)) gs) in (
      λ e. let h = both.0 e in (one.0 h.0, rest.0 h.1),
      λ h. both.1 (one.1 h.0, rest.1 h.1),
    )

-- The answer to question 3 is that all are in range exactly where every entry of every ingredient is.
pub range_iff : (list : List ℕ) (o : Order) → Reads list o → (range_of (read_order list) ≡ Ok tt) ↔ EntriesInRange o
unfolding range_of
range_iff list o e = rw e (ingredients_iff 1 o.ingredients)
