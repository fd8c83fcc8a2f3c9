-- The answers of the code, each from what the readers of the definition give.
use Rattle.std.specs.Prelude.{List, ℕ, ◌+◌, length, Result, Ok, Err}
use Rattle.order.specs.Order.{Ingredient, table, matrix, generator, Step, TAKE, FIELD, SUM, MERGE, SPLIT, CROSS, Order, total}
use Rattle.order.specs.Reader.{Parsed, value, refused}
use Rattle.order.specs.declared.Cursor.{Cursor}
use Rattle.order.specs.declared.Refused.{Refused}
use Rattle.order.specs.declared.Stage.{Stage}
use Rattle.order.specs.declared.Located.{Located}
use Rattle.order.specs.declared.Located.TheVariants.{Table, Matrix, Generator}

-- A number and the cursor after it.
unfoldable pub number_of : Parsed ℕ → Result (ℕ × Cursor) Refused
number_of (value x next) = Ok (x, record { at = next })
number_of (refused place) = Err (record { place = place })

-- The sum of what was read, and the cursor after it.
unfoldable pub total_of : Parsed (List ℕ) → Result (ℕ × Cursor) Refused
total_of (value xs next) = Ok (total xs, record { at = next })
total_of (refused place) = Err (record { place = place })

-- The cursor after whatever was read.
unfoldable pub walk_of : {A : Type 0} → Parsed A → Result Cursor Refused
walk_of (value a next) = Ok (record { at = next })
walk_of (refused place) = Err (record { place = place })

-- Where the entries of an ingredient start, if the number after its rows and columns stands at from.
abbrev pub entries_from : ℕ → Ingredient → ℕ
entries_from from (table rows levels entries) = from + length levels
entries_from from (matrix rows columns p entries) = from + 1
entries_from from (generator t s widths entries) = from + 1 + length widths

-- Its sizes and places, for the same from.
abbrev pub located : ℕ → Ingredient → Located
located from (table rows levels entries) = Table rows (length levels) from (from + length levels)
located from (matrix rows columns p entries) = Matrix rows columns p (from + 1)
located from (generator t s widths entries) =
    Generator t (length widths) s (from + 1) (total widths) (from + 1 + length widths)

-- An ingredient and the cursor after it.
unfoldable pub spot_of : ℕ → Parsed Ingredient → Result (Located × Cursor) Refused
spot_of from (value g next) = Ok (located from g, record { at = next })
spot_of from (refused place) = Err (record { place = place })

-- The kind of a step, as 01 numbers them, and 02 the last.
abbrev pub kind_of : Step → ℕ
kind_of (TAKE i) = 1
kind_of (FIELD i) = 2
kind_of (SUM ds k) = 3
kind_of (MERGE p cs) = 4
kind_of (SPLIT c i) = 5
kind_of (CROSS ds k h) = 6

-- A step whose operands start at from, and the cursor after it.
unfoldable pub stage_of : ℕ → Parsed Step → Result (Stage × Cursor) Refused
stage_of from (value s next) = Ok (record { kind = kind_of s; operands_at = from }, record { at = next })
stage_of from (refused place) = Err (record { place = place })

-- The cursor after a number that was read.
abbrev pub walk_after : Result (ℕ × Cursor) Refused → Result Cursor Refused
walk_after (Ok (x, next)) = Ok next
walk_after (Err refusal) = Err refusal

-- The answer to question 2.
unfoldable pub reading_of : Parsed Order → Result (Unit {0}) Refused
reading_of (value o next) = Ok tt
reading_of (refused place) = Err (record { place = place })
