-- `pricer::prices_given` meets its contract. The invariant: the numbers so far are those of as many arguments.
use mathlib.Core.Path.{◌≡◌}
use lib.ListN.{length}
use Rattle.price_arguments.proofs.Prices.{Listed}
use Rattle.pricer.proofs.prices_given.Given as goal

abbrev pub invariant-loop-i : goal.invariant-loop-i
invariant-loop-i g l = (length l.numbers ≡ 130) × Listed l.numbers l.i
