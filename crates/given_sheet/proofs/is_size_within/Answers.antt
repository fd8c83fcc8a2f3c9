-- `given_sheet::is_size_within` meets its contract.
use mathlib.Core.Path.{refl}
use Rattle.given_sheet.specs.Given.{size_within}
use Rattle.given_sheet.proofs.is_size_within.Goals as goal

pub returns : goal.returns
unfolding size_within
returns c = refl
