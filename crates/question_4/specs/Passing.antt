-- Question 4 on a list and buffers: document 01, "The questions, in turn".
use Rattle.std.specs.Prelude.{◌≡◌, List, ℕ, ◌+◌, ◌≤◌, length, take, drop, replicate, Result, Ok, Err}
use Rattle.std.proofs.Math.Option.{Option, none, some, bind}
use Rattle.places.specs.Places.{ingredient_at, ingredient_in}
use Rattle.buffers.specs.Put.{Bytes}
use Rattle.order.specs.Order.{Order}
use Rattle.order.specs.Reader.{Parsed, value, refused as unread}
use Rattle.order.specs.Grammar.{read_order}
use Rattle.sheets.specs.Outcome.{ingredient_refusal, ingredients_refusal}
use Rattle.sheets.specs.declared.answer.Refusal.{Refusal}

-- room for the numbers of any ingredient: as many bytes as 01's question 1 has of a scratch and of a level list, all of them zeros
pub record Room (cells numbers : List ℕ) : Type 0 where
  pub cells_long : 65536 ≤ length cells
  pub numbers_long : 128 ≤ length numbers
  pub cells_clear : cells ≡ replicate (length cells) 0
  pub numbers_clear : numbers ≡ replicate (length numbers) 0

-- so many numbers of the list from a place on fit in bytes, and there is room for them in a buffer
pub record Copyable (list : List ℕ) (at count : ℕ) (buffer : List ℕ) : Type 0 where
  pub within : at + count ≤ length list
  pub room : count ≤ length buffer
  pub small : Bytes (take count (drop at list))

-- the answer that a refusal, or none, comes to
unfoldable pub passing_of : Option Refusal → Result (Unit {0}) Refusal
passing_of none = Ok tt
passing_of (some why) = Err why

-- the refusal for which ingredient number i of the list gives cause; none where there is no such ingredient
unfoldable pub refusal_at : List ℕ → ℕ → Option Refusal
refusal_at list i = bind (ingredient_in list (ingredient_at (read_order list) i)) (ingredient_refusal i)

-- the answer for all ingredients of an order that was read; it is not asked of a list that does not read
unfoldable pub passing_in : Parsed Order → Result (Unit {0}) Refusal
passing_in (value o end) = passing_of (ingredients_refusal 1 o.ingredients)
passing_in (unread place) = passing_of none
