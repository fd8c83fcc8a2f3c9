-- `given_sheet::are_entries_below` meets its contract. The invariant: `all` says whether every entry of the runs so far is below its level count.
use mathlib.Core.Path.{refl}
use Rattle.finite.specs.Sum.{every}
use Rattle.given_sheet.specs.Given.{entries_below}
use Rattle.given_sheet.proofs.Given.{entries_next}
use Rattle.given_sheet.proofs.are_entries_below.Goals as goal

pub loop-run-init : goal.loop-run-init
unfolding entries_below every
loop-run-init c = refl

pub loop-run-preserved : goal.loop-run-preserved
loop-run-preserved c = rw (entries_next _ _ _ c.loop-run.run, c.loop-run.invariant, c.is_run_below-all.ensures)
