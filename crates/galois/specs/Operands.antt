-- What a field's tables are looked up by.
use Rattle.std.specs.Prelude.{ℕ, ◌<◌, T}
use Rattle.galois.specs.Arithmetic.{field_size}

-- s is the size of a field, and a and b are two of its elements
pub record Operands (s a b : ℕ) : Type 0 where
  pub size : T (field_size s)
  pub first : a < s
  pub second : b < s
