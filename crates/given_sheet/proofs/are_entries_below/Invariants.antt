-- `given_sheet::are_entries_below` meets its contract. The invariant: `all` says whether every entry of the runs so far is below its level count.
use mathlib.Core.Path.{◌≡◌}
use lib.ListN.{length}
use Rattle.given_sheet.specs.Given.{entries_below}
use Rattle.given_sheet.proofs.are_entries_below.Given as goal

abbrev pub invariant-loop-run : goal.invariant-loop-run
invariant-loop-run l = l.all ≡ entries_below l.run (length l.counts) l.counts l.table
