-- `charging::price_counts` meets its contract. The invariant: the sum over the columns before c, of which each is at most 65,535 × (2³² - 1).
use mathlib.Core.Path.{◌≡◌, sym}
use native.Mathlib.Omega.{arith}
use lib.ListN.{length}
use Rattle.charging.specs.Changes.{priced_counts}
use Rattle.charging.proofs.Changes.{column_most, priced_none, priced_more}
use Rattle.charging.proofs.price_counts.Goals as goal

pub loop-c-init : goal.loop-c-init
loop-c-init c = (sym (priced_none c.args.counts.now c.args.prices.now), omega arith)

pub loop-c-preserved : goal.loop-c-preserved
loop-c-preserved c =
    let most = column_most (c.type_inv.counts c.loop-c.c) (c.type_inv.prices c.loop-c.c) in
    (rw c.loop-c.invariant.0 (sym (priced_more c.args.counts.now c.args.prices.now c.loop-c.c)), omega (arith, most, c.loop-c.invariant.1))

pub returns : goal.returns
unfolding priced_counts
returns c =
    let all : c.loop-c.c ≡ length c.args.prices.now = omega arith in rw (← all) c.loop-c.invariant.0
