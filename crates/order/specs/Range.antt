-- Question 3: the first entry, over all ingredients in the order of the list, that is not below its levels, p or s.
use Rattle.std.specs.Prelude.{Bool, true, false, List, [], ◌∷◌, ℕ, zero, suc, ◌+◌, ◌%◌, ◌<◌, ltb, length, get_or, Result, Ok, Err}
use Rattle.order.specs.Order.{Ingredient, table, matrix, generator, entries_of, Order, All, written_ingredient}
use Rattle.order.specs.Reader.{Parsed, value, refused, when}
use Rattle.order.specs.Answers.{entries_from}
use Rattle.order.specs.declared.RangeFault.{RangeFault}
use Rattle.order.specs.declared.RangeFault.TheVariants.{OutOfRange, Unread}

-- What entry number q, from 0, stays below. Entries stand run by run, so entry q of a table is in column q % columns.
abbrev pub bound : Ingredient → ℕ → ℕ
bound (table rows levels entries) q = get_or levels (q % length levels) 0
bound (matrix rows columns p entries) q = p
bound (generator t s widths entries) q = s

-- Every entry of every ingredient is below its levels, p or s.
abbrev pub EntriesInRange : Order → Type 0
EntriesInRange o = All (λ g. (q : ℕ) → q < length (entries_of g) → get_or (entries_of g) q 0 < bound g q) o.ingredients

-- The first of left numbers from q on that fails the test; its place, where number 0 stands at start.
abbrev pub first_failing : (ℕ → Bool) → ℕ → ℕ → ℕ → Result (Unit {0}) RangeFault
first_failing ok start zero q = Ok tt
first_failing ok start (suc left) q = when (ok q) (first_failing ok start left (q + 1)) (Err (OutOfRange (start + q)))

-- The first entry of an ingredient that is out of range, where the number after its rows and columns stands at from.
unfoldable pub ingredient_range : ℕ → Ingredient → Result (Unit {0}) RangeFault
ingredient_range from g =
    first_failing (λ q. ltb (get_or (entries_of g) q 0) (bound g q)) (entries_from from g) (length (entries_of g)) 0

-- The first answer that is not in range.
abbrev pub earlier : Result (Unit {0}) RangeFault → Result (Unit {0}) RangeFault → Result (Unit {0}) RangeFault
earlier (Ok asked) next = next
earlier (Err fault) next = Err fault

-- Whether no entry was found out of range.
abbrev pub is_in_range : Result (Unit {0}) RangeFault → Bool
is_in_range (Ok asked) = true
is_in_range (Err fault) = false

-- Over ingredients one after the other, the first of which stands at a place.
abbrev pub ingredients_range : ℕ → List Ingredient → Result (Unit {0}) RangeFault
ingredients_range at [] = Ok tt
ingredients_range at (g ∷ gs) =
    earlier (ingredient_range (at + 3) g) (ingredients_range (at + length (written_ingredient g)) gs)

-- The answer to question 3, which is not asked of a list that does not read. The first ingredient stands at place 1.
unfoldable pub range_of : Parsed Order → Result (Unit {0}) RangeFault
range_of (value o next) = ingredients_range 1 o.ingredients
range_of (refused place) = Err Unread
