-- How many steps an order has, of what was read.
use Rattle.std.specs.Prelude.{ℕ}
use Rattle.order.specs.Order.{Order}
use Rattle.order.specs.Reader.{Parsed}
use Rattle.places.specs.Places.{steps_of, count_of}

unfoldable pub step_count : Parsed Order → ℕ
step_count p = count_of steps_of p
