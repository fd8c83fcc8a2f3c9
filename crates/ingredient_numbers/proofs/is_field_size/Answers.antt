-- `ingredient_numbers::is_field_size` meets its contract: each way out has the parts of the test decided.
use native.Mathlib.Omega.{arith}
use Rattle.order.proofs.Powers.{small_power}
use Rattle.ingredient_numbers.proofs.is_field_size.Goals as goal

pub power-requires : goal.power-requires
power-requires c = (omega (arith, c.if-s-lt2.false), small_power _ _ c.if-s-gt9.false c.requires)
