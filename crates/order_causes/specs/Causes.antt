-- Why a list is refused at questions 2 and 3 (document 01, "The questions, in turn"): in terms of orders and their writing, with no reader named.
use Rattle.std.specs.Prelude.{◌≡◌, List, ◌∷◌, ◌++◌, ℕ, ◌+◌, ◌≤◌, ◌<◌, length, get_or, take}
use Rattle.order.specs.Order.{Ingredient, entries_of, Order, All, WithinLimits, written_ingredient, written_all, written}
use Rattle.order.specs.Answers.{entries_from}
use Rattle.order.specs.Range.{bound}

-- The numbers begin the writing of some order within its limits, however long that writing is.
pub record Begins (numbers : List ℕ) : Type 0 where
  pub order : Order
  pub limits : WithinLimits order
  pub rest : List ℕ
  pub writes : written order ≡ numbers ++ rest

-- The cause of refusal 2, with its place.
pub data NotAnOrder (list : List ℕ) (place : ℕ) : Type 0 where
  -- over 32,768 numbers
  too_long : 32768 < length list → place ≡ 32768 → NotAnOrder list place
  -- the number at the place is not allowed, or left over: what stands before it begins the writing of an order, and with it that is no longer so
  stops : length list ≤ 32768
      → place < length list
      → Begins (take place list)
      → (Begins (take (place + 1) list) → ⊥)
      → NotAnOrder list place
  -- the list runs out: it begins the writing of an order, and is itself the writing of none
  runs_out : length list ≤ 32768
      → place ≡ length list
      → Begins list
      → ((o : Order) → WithinLimits o → written o ≡ list → ⊥)
      → NotAnOrder list place

-- Entry number q of an ingredient, from 0, is below its levels, p or s.
abbrev pub EntryInRange : Ingredient → ℕ → Type 0
EntryInRange g q = get_or (entries_of g) q 0 < bound g q

-- Every entry of an ingredient is.
abbrev pub IngredientInRange : Ingredient → Type 0
IngredientInRange g = (q : ℕ) → q < length (entries_of g) → EntryInRange g q

-- The place of the first entry of an ingredient that is written after others: the list starts with the number of ingredients, and each of them with
-- kind, rows and columns.
abbrev pub first_entry : List Ingredient → Ingredient → ℕ
first_entry before g = entries_from (1 + length (written_all written_ingredient before) + 3) g

-- The cause of refusal 3, with its place: the first entry out of range, which is entry number q of an ingredient.
pub record FirstOutOfRange (o : Order) (place : ℕ) : Type 0 where
  pub before : List Ingredient
  pub ingredient : Ingredient
  pub after : List Ingredient
  pub one_of : o.ingredients ≡ before ++ ingredient ∷ after
  pub q : ℕ
  pub entry : q < length (entries_of ingredient)
  pub stands : place ≡ first_entry before ingredient + q
  pub out_of_range : bound ingredient q ≤ get_or (entries_of ingredient) q 0
  pub earlier_entries : (r : ℕ) → r < q → EntryInRange ingredient r
  pub earlier_ingredients : All IngredientInRange before
