-- `input::scan_input` meets its contract. The invariant: some pieces have been scanned from the start, with no word refused.
use Rattle.input.proofs.Scanning.{ScannedPart}
use Rattle.input.proofs.scan_input.Given as goal

abbrev pub invariant-loop : goal.invariant-loop
invariant-loop g l = ScannedPart l.initial.list l.state l.list
