-- `factor_block` meets its contract: the columns before the factor, and its own.
-- Assumes nothing.
use Rattle.combining.specs.Combining.{factor_block}
use Rattle.generator_check.proofs.factor_block.Goals as goal

pub returns : goal.returns
unfolding factor_block
returns c = rw c.columns_before.ensures
