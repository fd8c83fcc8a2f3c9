-- What the parts of the code that answers question 3 find in the list itself.
use Rattle.std.specs.Prelude.{List, ℕ, zero, suc, ◌+◌, ◌*◌, ◌≤◌, ◌<◌, length, take, drop, replicate, Result, Ok, Err}
use Rattle.order.specs.Order.{Ingredient}
use Rattle.order.specs.Reader.{Parsed, value, refused}
use Rattle.order.specs.Grammar.{read_ingredient}
use Rattle.order.specs.declared.Located.{Located}
use Rattle.order.specs.declared.Located.TheVariants.{Table, Matrix, Generator}
use Rattle.order.specs.Range.{ingredient_range, earlier}
use Rattle.order.specs.declared.RangeFault.{RangeFault}
use Rattle.order.specs.declared.RangeFault.TheVariants.{Unread}
use Rattle.row_limits.specs.High.{high_in_rows}

-- The limits and the entries of an ingredient stand within the list. One limit for all entries is a 16-bit number, and a row is at most as long as
-- that of a generator with 128 factors of width 6.
abbrev pub Inside : List ℕ → Located → Type 0
Inside list (Table rows columns levels_at entries_at) =
    (levels_at + columns ≤ length list) × (entries_at + rows * columns ≤ length list)
Inside list (Matrix rows columns p entries_at) =
    ((columns ≤ 768) × (p < 65536)) × (entries_at + rows * columns ≤ length list)
Inside list (Generator t n s widths_at width entries_at) =
    ((width ≤ 768) × (s < 65536)) × (entries_at + t * width ≤ length list)

-- The first entry out of range of an ingredient by its places. A table's columns have their level counts as limits.
unfoldable pub located_range : List ℕ → Located → Result (Unit {0}) RangeFault
located_range list (Table rows columns levels_at entries_at) =
    high_in_rows list entries_at rows (take columns (drop levels_at list))
located_range list (Matrix rows columns p entries_at) = high_in_rows list entries_at rows (replicate columns p)
located_range list (Generator t n s widths_at width entries_at) = high_in_rows list entries_at t (replicate width s)

-- The same over n ingredients of the list, as far as they read: what one that was read says, then what the rest says.
abbrev pub checked : ℕ → Parsed Ingredient → (ℕ → Result (Unit {0}) RangeFault) → Result (Unit {0}) RangeFault
checked from (value g next) rest = earlier (ingredient_range from g) (rest next)
checked from (refused place) rest = Err Unread

abbrev pub scanned : ℕ → List ℕ → ℕ → Result (Unit {0}) RangeFault
scanned zero list at = Ok tt
scanned (suc n) list at = checked (at + 3) (read_ingredient list at) (λ next. scanned n list next)
