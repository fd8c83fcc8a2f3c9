-- `settling::settle` meets its contract: each of the three buffers by its own function.
use lib.ListN.{length}
use Rattle.layout.proofs.Bytes.{zeros_all}
use Rattle.settling.proofs.Cleared.{zeros_joined}
use Rattle.settling.proofs.settle.Goals as goal

pub returns-clause-zeros : goal.returns-clause-zeros
returns-clause-zeros c =
    let scratch = c.args.scratch.now in zeros_all (length scratch) (zeros_joined c.args.built scratch _ c.requires.built_in_bounds.1 c.clear.ensures)
