-- Question 3: the code's walk over the list finds what the definition says of the order.
use mathlib.Core.Path.{◌≡◌, refl}
use mathlib.Core.List.{List}
use Prim.Native.Nat.{ℕ, zero, suc}
use lib.ListN.{length}
use Rattle.order.specs.Order.{Ingredient}
use Rattle.order.specs.Reader.{value, repeated}
use Rattle.order.specs.Grammar.{read_ingredient, read_order}
use Rattle.order.specs.declared.Cursor.{Cursor}
use Rattle.std.specs.Prelude.{Ok, Err}
use Rattle.order.specs.declared.Refused.{Refused}
use Rattle.order.specs.Range.{ingredients_range, range_of}
use Rattle.order.specs.declared.RangeFault.TheVariants.{Unread}
use Rattle.order.proofs.Law.{same_value}
use Rattle.order.proofs.IngredientLaw.{ingredient_law}
use Rattle.places.specs.Places.{ingredients_of, first_ingredient_place, ingredients_start}
use Rattle.places.proofs.Parts.{continued, ingredients_parts}
use Rattle.places.proofs.Lookups.{start_order, start_refused}
use Rattle.entry_range.specs.Search.{scanned}

-- The walk over n ingredients that read.
scanned_times : (n : ℕ) (list : List ℕ) (at : ℕ) (gs : List Ingredient) (next : ℕ) → repeated n read_ingredient list at ≡ value gs next → scanned n list at ≡ ingredients_range at gs
scanned_times zero list at gs next e = same_value (λ gs next. Ok tt ≡ ingredients_range at gs) e refl
scanned_times (suc n) list at gs next e =
    continued (read_ingredient list at) _ e λ g mid v e₁.
    continued (repeated n read_ingredient list mid) _ e₁ λ gs' last v' e₂.
    let after = (ingredient_law.sound list at g mid v).1.after in
    same_value (λ gs next. scanned (suc n) list at ≡ ingredients_range at gs) e₂
    (rw (v, scanned_times n list mid gs' last v', after))

pub scanned_order : (list : List ℕ) {q : ℕ} {next : Cursor} → ingredients_start (read_order list) ≡ Ok (q, next) → scanned q list next.at ≡ range_of (read_order list)
unfolding range_of ingredients_start
scanned_order list {q} {next} e =
    start_order ingredients_of first_ingredient_place (read_order list) e λ o last v many one.
    ingredients_parts list o last v λ mid count read.
    rw (many, one, v) (scanned_times (length o.ingredients) list 1 o.ingredients mid read)

pub range_unread : (list : List ℕ) {refusal : Refused} → ingredients_start (read_order list) ≡ Err refusal → Err Unread ≡ range_of (read_order list)
unfolding range_of ingredients_start
range_unread list e = rw (start_refused ingredients_of first_ingredient_place (read_order list) e)
