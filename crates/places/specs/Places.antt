-- Where the single ingredients and steps of an order stand in its list, by number from 1. A list that does not read has none.
use Rattle.std.specs.Prelude
use Rattle.std.specs.Prelude.{List, [], ◌∷◌, ℕ, zero, suc, ◌+◌, ◌*◌, eqb, length, get_or, take, drop, Result, Ok, Err, Some, None}
use Rattle.std.proofs.Math.Option.{Option, none, some}
use Rattle.order.specs.Order.{Ingredient, table, matrix, generator, Step, TAKE, FIELD, SUM, MERGE, SPLIT, CROSS, Order, written_ingredient, written_step, written_all}
use Rattle.order.specs.Reader.{Parsed, value, refused, Reader, when, repeated}
use Rattle.order.specs.Grammar.{read_ingredient, read_step}
use Rattle.order.specs.Answers.{located, kind_of}
use Rattle.order.specs.declared.Cursor.{Cursor}
use Rattle.order.specs.declared.Refused.{Refused}
use Rattle.order.specs.declared.Located.{Located}
use Rattle.order.specs.declared.Located.TheVariants.{Table, Matrix, Generator}
use Rattle.order.specs.declared.Stage.{Stage}

-- What f makes of what was read, or else other.
abbrev pub or_none : {A R : Type 0} → R → (A → ℕ → R) → Parsed A → R
or_none other f (value a next) = f a next
or_none other f (refused place) = other

-- What f says of number i, from 1, where it takes them from 0.
abbrev pub from_one : {R : Type 0} → R → (ℕ → R) → ℕ → R
from_one other f zero = other
from_one other f (suc k) = f k

-- What f makes of value k, from 0, and its place, where values are written by w one after the other from place at on.
abbrev pub nth_in : {A R : Type 0} → R → (ℕ → A → R) → (A → List ℕ) → ℕ → List A → ℕ → R
nth_in other f w at [] k = other
nth_in other f w at (x ∷ xs) zero = f at x
nth_in other f w at (x ∷ xs) (suc k) = nth_in other f w (at + length (w x)) xs k

-- The same in any list, after k values that r reads from place at on.
abbrev pub nth_read : {A R : Type 0} → R → (ℕ → A → R) → Reader A → ℕ → List ℕ → ℕ → R
nth_read other f r k list at = or_none other (λ xs mid. or_none other (λ x next. f mid x) (r list mid)) (repeated k r list at)

-- Of an order that was read, whose items of one sort stand from a place on: how many items there are, with the place of the first; their
-- number; and item number i, from 1.
abbrev pub start_of : {A : Type 0} → (Order → List A) → (Order → ℕ) → Parsed Order → Result (ℕ × Cursor) Refused
start_of items place (value o next) = Ok (length (items o), record { at = place o })
start_of items place (refused there) = Err (record { place = there })

abbrev pub count_of : {A : Type 0} → (Order → List A) → Parsed Order → ℕ
count_of items p = or_none 0 (λ o next. length (items o)) p

abbrev pub item_at : {A R : Type 0} → R → (ℕ → A → R) → (A → List ℕ) → (Order → List A) → (Order → ℕ) → Parsed Order → ℕ → R
item_at other f w items place p i = or_none other (λ o next. from_one other (nth_in other f w (place o) (items o)) i) p

-- The first ingredient stands at place 1, and the first step after the number of ingredients, they, and the number of steps.
abbrev pub ingredients_of : Order → List Ingredient
ingredients_of o = o.ingredients

abbrev pub steps_of : Order → List Step
steps_of o = o.steps

abbrev pub first_ingredient_place : Order → ℕ
first_ingredient_place o = 1

abbrev pub first_step_place : Order → ℕ
first_step_place o = 1 + length (written_all written_ingredient o.ingredients) + 1

unfoldable pub ingredients_start : Parsed Order → Result (ℕ × Cursor) Refused
ingredients_start p = start_of ingredients_of first_ingredient_place p

unfoldable pub steps_start : Parsed Order → Result (ℕ × Cursor) Refused
steps_start p = start_of steps_of first_step_place p

unfoldable pub ingredient_count : Parsed Order → ℕ
ingredient_count p = count_of ingredients_of p

-- An ingredient by its place: its sizes, and where its numbers start.
abbrev pub ingredient_from : ℕ → Ingredient → Prelude.Option Located
ingredient_from at g = Some (located (at + 3) g)

unfoldable pub ingredient_at : Parsed Order → ℕ → Prelude.Option Located
ingredient_at p i = item_at None ingredient_from written_ingredient ingredients_of first_ingredient_place p i

-- A step by its place: its kind, and where its operands start.
abbrev pub step_from : ℕ → Step → Prelude.Option Stage
step_from at s = Some (record { kind = kind_of s; operands_at = at + 1 })

unfoldable pub step_at : Parsed Order → ℕ → Prelude.Option Stage
step_at p k = item_at None step_from written_step steps_of first_step_place p k

-- What stands in any list after k ingredients, or k steps.
unfoldable pub ingredient_after : ℕ → List ℕ → ℕ → Prelude.Option Located
ingredient_after k list at = nth_read None ingredient_from read_ingredient k list at

unfoldable pub step_after : ℕ → List ℕ → ℕ → Prelude.Option Stage
step_after k list at = nth_read None step_from read_step k list at

-- The ingredient and the step that places describe, from the numbers that the list has there.
abbrev pub ingredient_in : List ℕ → Prelude.Option Located → Option Ingredient
ingredient_in list (Some (Table rows columns levels_at entries_at)) =
    some (table rows (take columns (drop levels_at list)) (take (rows * columns) (drop entries_at list)))
ingredient_in list (Some (Matrix rows columns p entries_at)) = some (matrix rows columns p (take (rows * columns) (drop entries_at list)))
ingredient_in list (Some (Generator t n s widths_at width entries_at)) =
    some (generator t s (take n (drop widths_at list)) (take (t * width) (drop entries_at list)))
ingredient_in list None = none

-- The operands of SUM and CROSS start with r, after which stand the r matrices, k and, of CROSS alone, h.
abbrev pub matrices_from : List ℕ → ℕ → List ℕ
matrices_from list at = take (get_or list at 0) (drop (at + 1) list)

abbrev pub adjoined_from : List ℕ → ℕ → ℕ
adjoined_from list at = get_or list (at + 1 + get_or list at 0) 0

abbrev pub crossed_from : List ℕ → ℕ → ℕ
crossed_from list at = get_or list (at + 1 + get_or list at 0 + 1) 0

abbrev pub operands_of : List ℕ → ℕ → ℕ → Step
operands_of list kind at =
    when (eqb kind 1) (TAKE (get_or list at 0))
    (when (eqb kind 2) (FIELD (get_or list at 0))
    (when (eqb kind 3) (SUM (matrices_from list at) (adjoined_from list at))
    (when (eqb kind 4) (MERGE (get_or list at 0) (take (get_or list at 0 + 1) (drop (at + 1) list)))
    (when (eqb kind 5) (SPLIT (get_or list at 0) (get_or list (at + 1) 0))
    (CROSS (matrices_from list at) (adjoined_from list at) (crossed_from list at))))))

abbrev pub step_in : List ℕ → Prelude.Option Stage → Option Step
step_in list (Some found) = some (operands_of list found.kind found.operands_at)
step_in list None = none
