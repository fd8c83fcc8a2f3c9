-- `same` meets its contract: std's comparison is the contract's.
use mathlib.Core.Path.{◌∙◌}
use Rattle.byte_texts.proofs.Comparing.{same_is}
use Rattle.byte_texts.proofs.same.Goals as goal

pub returns : goal.returns
returns c = c.eq.ensures ∙ same_is _ _
