-- `charging::count_changes` meets its contract. The invariant: the runs up to this one are counted.
use mathlib.Core.Path.{◌≡◌, refl}
use Prim.Native.Nat.{◌-◌}
use native.Mathlib.Omega.{arith}
use lib.ListN.{length}
use Rattle.charging.specs.Changes.{change_count}
use Rattle.charging.proofs.Changes.{counting_none, counting_more, counting_low, next_within}
use Rattle.charging.proofs.count_changes.Goals as goal

pub loop-run-init : goal.loop-run-init
loop-run-init c = counting_none _ _ refl c.requires.by_index

pub count_next-requires-clause-counts_in_bounds : goal.count_next-requires-clause-counts_in_bounds
count_next-requires-clause-counts_in_bounds c =
    rw c.loop-run.auto.counts (next_within c.loop-run.run (length c.args.counts.now) refl (omega arith) c.requires.runs_bound.1)

pub count_next-requires-clause-by_index : goal.count_next-requires-clause-by_index
count_next-requires-clause-by_index c = counting_low _ _ c.loop-run.invariant (omega (arith, c.requires.runs_bound.0))

pub loop-run-preserved : goal.loop-run-preserved
loop-run-preserved c = counting_more _ _ c.loop-run.invariant (rw c.loop-run.auto.counts refl) (omega (arith, c.count_next.auto)) c.count_next.ensures

pub returns : goal.returns
unfolding change_count
returns c k h =
    let all : c.loop-run.run ≡ c.args.runs - 1 = omega arith in rw (← all) (c.loop-run.invariant.counted k h)
