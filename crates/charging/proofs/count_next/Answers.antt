-- `charging::count_next` meets its contract. The invariant: the counts of the columns before c are raised, and the others are as they were.
use Rattle.charging.specs.Changes.{differs}
use Rattle.charging.proofs.Changes.{raising_more}
use Rattle.charging.proofs.count_next.Goals as goal

pub loop-c-preserved : goal.loop-c-preserved
unfolding differs
loop-c-preserved c = raising_more _ _ _ c.loop-c.invariant c.loop-c-test.true
