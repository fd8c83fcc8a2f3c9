-- `charging::price_changes` meets its contract: the front of an array of zeros has a count for each column.
use mathlib.Core.Path.{sym}
use lib.ListN.{length}
use lib.Seq.{length-take-le}
use Rattle.charging.proofs.Changes.{zero_front}
use Rattle.charging.proofs.price_changes.Goals as goal

pub slice_bounds-count_and_price-end : goal.slice_bounds-count_and_price-end
slice_bounds-count_and_price-end c = sym (length-take-le _ _ c.requires.1)

pub count_and_price-requires-clause-runs_bound : goal.count_and_price-requires-clause-runs_bound
count_and_price-requires-clause-runs_bound c =
    let pre = c.requires in pre

pub count_and_price-requires-clause-counts_len : goal.count_and_price-requires-clause-counts_len
count_and_price-requires-clause-counts_len c =
    let pre = c.requires in length-take-le _ _ pre.1

pub count_and_price-requires-clause-by_index : goal.count_and_price-requires-clause-by_index
count_and_price-requires-clause-by_index c =
    let pre = c.requires in zero_front (length c.args.prices.now) 128
