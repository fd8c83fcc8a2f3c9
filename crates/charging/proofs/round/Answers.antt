-- `charging::round` meets its contract, which is its text.
use mathlib.Core.Path.{refl}
use Rattle.charges.specs.Charge.{rounded}
use Rattle.charging.proofs.round.Goals as goal

pub returns : goal.returns
unfolding rounded
returns c = refl
