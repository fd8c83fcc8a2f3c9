-- `ends_item` meets its contract: an empty item, one of the two lines, or a record.
use mathlib.Core.Path.{◌≡◌}
use mathlib.Core.Bool.{true, false}
use lib.ListN.{get_or}
use borrow.Author.Tests.{eq-eqb, ne_eqb}
use Rattle.record_texts.specs.Text.{is_line}
use Rattle.record_texts.proofs.Texts.{ends_empty, ends_by}
use Rattle.records.proofs.ends_item.Goals as goal
use Rattle.records.proofs.ends_item.Goals.{then-first-eq35-via-then-first-eq35, then-first-eq35-via-else-first-eq35+then-first-eq64}

pub returns-then-item-eq0 : goal.returns-then-item-eq0
returns-then-item-eq0 c = ends_empty _ _ c.if-item-eq0.true

pub returns-then-first-eq35 : goal.returns-then-first-eq35
returns-then-first-eq35 c =
    let item = c.args.item.now in
    let line : is_line (get_or item 0 0) ≡ true =
    elim c.then-first-eq35.branch [
      | then-first-eq35-via-then-first-eq35 w ↦ rw (eq-eqb _ 35 w.if-first-eq35.true)
      | then-first-eq35-via-else-first-eq35+then-first-eq64 w ↦ rw (ne_eqb _ 35 w.if-first-eq35.false, eq-eqb _ 64 w.if-first-eq64.true)
    ] in
    ends_by _ item c.if-item-eq0.false line

pub returns : goal.returns
returns c =
    let item = c.args.item.now in
    let line : is_line (get_or item 0 0) ≡ false = rw (ne_eqb _ 35 c.if-first-eq35.false, ne_eqb _ 64 c.if-first-eq64.false) in
    ends_by _ item c.if-item-eq0.false line
