-- `compare_byte` meets its contract: the byte ends the item, or is held with it if there is room.
use mathlib.Core.Path.{sym, ◌∙◌}
use native.Mathlib.Omega.{arith}
use Rattle.record_texts.proofs.Texts.{byte_ends, byte_held, byte_cut}
use Rattle.records.proofs.compare_byte.Goals as goal

pub returns-then-ends_item-clause-counts_after : goal.returns-then-ends_item-clause-counts_after
returns-then-ends_item-clause-counts_after g c =
    let ended = c.compare_item.ensures in
    byte_ends c.args.item.now c.args.counts.now c.args.before c.args.byte (sym c.ends_item.ensures ∙ c.if-ends_item.true) ended.held_value ended.counts_after

pub returns-then-held-room-clause-counts_after : goal.returns-then-held-room-clause-counts_after
returns-then-held-room-clause-counts_after g c =
    byte_cut c.args.item.now c.args.counts.now c.args.before c.args.byte (sym c.ends_item.ensures ∙ c.if-ends_item.false) c.if-held-room.true

pub returns-clause-counts_after : goal.returns-clause-counts_after
returns-clause-counts_after g c =
    byte_held c.args.item.now c.args.counts.now c.args.before c.args.byte (sym c.ends_item.ensures ∙ c.if-ends_item.false) (omega arith)
