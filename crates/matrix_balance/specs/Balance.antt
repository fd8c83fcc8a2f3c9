-- What the question of 02, K6 comes to, as the code answers it.
use Rattle.std.specs.Prelude.{List, ℕ, ◌+◌, get_or, Some, None}
use Rattle.std.specs.Prelude as Prelude
use Rattle.std.proofs.Math.Option.{Option, none, some}
use Rattle.step_tables.specs.Cross.{ValueFault}
use Rattle.matrix_balance.specs.declared.Unevenness.{Unevenness}
use Rattle.matrix_balance.specs.declared.UnevenColumn.{UnevenColumn}

-- the first failure that was found, where ds are the numbers of the step's list: the matrix by its number, and its column from 1
unfoldable pub balance_of : List ℕ → Option ValueFault → Prelude.Option Unevenness
balance_of ds none = None
balance_of ds (some fault) = Some (record { ingredient = get_or ds fault.place 0; column = fault.column + 1; value = fault.value })

-- what was found in the matrix in place q of the step's list, as the definitions have it
abbrev pub found_in : ℕ → Prelude.Option UnevenColumn → Option ValueFault
found_in q None = none
found_in q (Some uneven) = some (record { place = q; column = uneven.column; value = uneven.value })
