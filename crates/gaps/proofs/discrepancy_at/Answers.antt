-- `discrepancy_at` meets its contract: 4,096 times a counter fits, and so does its difference from the runs.
use mathlib.Core.Path.{◌∙◌}
use borrow.Author.Rules.{sfits_of}
use mir.Facts.{to_z-of_z}
use mir.Syntax.{w64}
use Rattle.gaps.proofs.Farthest.{discrepancy_made}
use Rattle.gaps.proofs.discrepancy_at.Goals as goal

pub returns : goal.returns
returns c = discrepancy_made _ _ _ c.args.value (to_z-of_z {w = w64} (sfits_of c.difference.type_inv) ∙ c.difference.ensures)
