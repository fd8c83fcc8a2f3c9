-- `compare_item` meets its contract: an empty item, a line of lengths, a record, or a remark.
use mathlib.Core.Path.{◌∙◌, ap}
use Rattle.byte_texts.proofs.Comparing.{rest_whole}
use Rattle.record_texts.specs.Record.{lengths_given}
use Rattle.record_texts.proofs.Texts.{item_empty, item_lengths, item_record, item_remark}
use Rattle.records.proofs.compare_item.Goals as goal

pub returns-then-first-eq64-clause-counts_after : goal.returns-then-first-eq64-clause-counts_after
returns-then-first-eq64-clause-counts_after g c =
    item_lengths _ _ _ _ _ c.if-item-gt0.true c.if-first-eq64.true
    (c.lengths_of-lengths.ensures ∙ ap lengths_given (rest_whole c.args.item.now 1))

pub returns-then-first-ne35-clause-counts_after : goal.returns-then-first-ne35-clause-counts_after
returns-then-first-ne35-clause-counts_after g c =
    item_record _ _ _ _ _ c.if-item-gt0.true c.if-first-eq64.false c.if-first-ne35.true c.compare_record-tally.ensures

pub returns-else-first-ne35-clause-counts_after : goal.returns-else-first-ne35-clause-counts_after
returns-else-first-ne35-clause-counts_after g c = item_remark _ _ _ _ _ c.if-item-gt0.true c.if-first-eq64.false c.if-first-ne35.false

pub returns-else-item-gt0-clause-counts_after : goal.returns-else-item-gt0-clause-counts_after
returns-else-item-gt0-clause-counts_after g c = item_empty _ _ _ _ _ c.if-item-gt0.false
