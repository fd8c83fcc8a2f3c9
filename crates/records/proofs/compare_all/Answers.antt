use borrow.Author.Rules.{rules}
use Rattle.record_texts.proofs.Texts.{underway_start, underway_piece, underway_tally, few_differ}
use Rattle.records.proofs.compare_all.Goals as goal

pub loop-init : goal.loop-init
loop-init g c = (search rules, search rules, search rules, underway_start)

pub loop-preserved : goal.loop-preserved
loop-preserved g c =
    let so_far = c.loop.invariant in
    (search rules, search rules, search rules, underway_piece so_far.3 _ so_far.0 c.compare_piece-state.ensures.counts_after)

pub returns-in-Ok-clause-differing_le_records : goal.returns-in-Ok-clause-differing_le_records
returns-in-Ok-clause-differing_le_records g c = few_differ (underway_tally c.loop.invariant.3)

pub returns-in-Err-clause-differing_le_records : goal.returns-in-Err-clause-differing_le_records
returns-in-Err-clause-differing_le_records g c = few_differ (underway_tally c.loop.invariant.3)
