use mathlib.Core.Path.{sym, ◌∙◌}
use borrow.Author.Rules.{rules}
use Rattle.record_texts.proofs.Texts.{text_next, text_end}
use Rattle.records.proofs.compare_piece.Goals as goal

pub loop-byte-preserved : goal.loop-byte-preserved
loop-byte-preserved g c =
    let so_far = c.loop-byte.invariant in
    (search rules, search rules, search rules, so_far.3 ∙ text_next _ _ _ _ so_far.0 c.loop-byte-test.true c.compare_byte-state.ensures.counts_after)

pub returns-clause-counts_after : goal.returns-clause-counts_after
returns-clause-counts_after g c = sym (c.loop-byte.invariant.3 ∙ text_end _ _ _ _ c.loop-byte-test.false)
