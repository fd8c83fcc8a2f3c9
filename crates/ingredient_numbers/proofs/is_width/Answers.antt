-- `ingredient_numbers::is_width` meets its contract: each way out has the parts of the test decided; no u over 6 has s^u at most 64.
use borrow.Author.Tests.{le-leb, lt-leb}
use Rattle.order.proofs.Powers.{small_power, large_power}
use native.Mathlib.Omega.{arith}
use Rattle.ingredient_numbers.proofs.is_width.Goals as goal

pub returns-then-u-gt6 : goal.returns-then-u-gt6
returns-then-u-gt6 c = simp (le-leb _ _ c.if-u-lt1.false, lt-leb _ _ (large_power _ _ c.requires.0 c.if-u-gt6.true))

pub power-requires : goal.power-requires
power-requires c = (omega (arith, c.requires.0), small_power _ _ c.requires.1 (omega (arith, c.if-u-gt6.false)))
