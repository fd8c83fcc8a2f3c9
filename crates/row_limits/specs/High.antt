-- The first number of rows in the list that is not below its limit.
use Rattle.std.specs.Prelude.{Bool, List, ℕ, zero, suc, ◌+◌, ltb, length, get_or, Result, Ok}
use Rattle.order.specs.Range.{first_failing, earlier}
use Rattle.order.specs.declared.RangeFault.{RangeFault}

-- Number c of the row from place start on is below limit c.
abbrev pub is_below : List ℕ → ℕ → List ℕ → ℕ → Bool
is_below list start limits c = ltb (get_or list (start + c) 0) (get_or limits c 0)

-- The first number of that row that is not below its limit.
unfoldable pub high_in_row : List ℕ → ℕ → List ℕ → Result (Unit {0}) RangeFault
high_in_row list start limits = first_failing (is_below list start limits) start (length limits) 0

-- The same over rows one after the other, each of which has the same limits.
abbrev pub high_in_rows : List ℕ → ℕ → ℕ → List ℕ → Result (Unit {0}) RangeFault
high_in_rows list start zero limits = Ok tt
high_in_rows list start (suc rows) limits =
    earlier (high_in_row list start limits) (high_in_rows list (start + length limits) rows limits)
