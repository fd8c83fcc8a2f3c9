-- Lists of numbers: those from a number on, and those that are all below one.
use Rattle.std.specs.Prelude.{List, [], ◌∷◌, ℕ, zero, suc, ◌<◌, length, get_or}

-- the numbers from a on, n of them
unfoldable pub from : ℕ → ℕ → List ℕ
from a zero = []
from a (suc n) = a ∷ from (suc a) n

-- every number of the list is below n
unfoldable pub AllBelow : ℕ → List ℕ → Type 0
AllBelow n xs = (k : ℕ) → k < length xs → get_or xs k 0 < n
