-- `given_sheet::is_run_below` meets its contract. The invariant: `all` says whether every entry so far is below its level count.
use mathlib.Core.Path.{refl}
use Rattle.finite.specs.Sum.{every}
use Rattle.given_sheet.proofs.Given.{every_next}
use Rattle.given_sheet.proofs.is_run_below.Goals as goal

pub loop-c-init : goal.loop-c-init
unfolding every
loop-c-init c = refl

pub loop-c-preserved : goal.loop-c-preserved
loop-c-preserved c = rw (every_next c.loop-c.c, c.loop-c.invariant)
