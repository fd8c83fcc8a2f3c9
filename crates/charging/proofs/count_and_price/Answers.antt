-- `charging::count_and_price` meets its contract: the counts are those of the definition, column by column.
use mathlib.Core.Path.{◌∙◌}
use Rattle.charging.proofs.Changes.{priced_same}
use Rattle.charging.proofs.count_and_price.Goals as goal

pub count_changes-requires-clause-runs_bound : goal.count_changes-requires-clause-runs_bound
count_changes-requires-clause-runs_bound c = (c.requires.runs_bound.0, rw c.requires.counts_len c.requires.runs_bound.2)

pub count_changes-requires-clause-by_index : goal.count_changes-requires-clause-by_index
count_changes-requires-clause-by_index c = c.requires.by_index

pub returns : goal.returns
returns c =
    c.price_counts.ensures
    ∙ priced_same c.args.prices.now (λ k h. rw (← c.requires.counts_len) (c.count_changes.ensures k (rw c.requires.counts_len h)))
