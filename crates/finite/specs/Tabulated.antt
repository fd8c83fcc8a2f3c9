-- A function's values in an array, so that they are worked out once and then looked up.
use Rattle.std.specs.Prelude.{◌≡◌, List, ℕ, ◌<◌, length, get_or}

-- an array of 4,096 places, of which the first n have the values of f
pub record Tabulated (f : ℕ → ℕ) (n : ℕ) (values : List ℕ) : Type 0 where
  pub places : length values ≡ 4096
  pub each : (q : ℕ) → q < n → get_or values q 0 ≡ f q
