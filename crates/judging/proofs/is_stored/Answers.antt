-- `is_stored` meets its contract: two bytes, and then the rest.
use mathlib.Core.Path.{◌∙◌, ap}
use Rattle.byte_texts.specs.Bytes.{same_bytes}
use Rattle.byte_texts.proofs.Comparing.{rest_whole}
use Rattle.record_texts.proofs.Judging.{stored_short, stored_other, stored_on, stored_rest}
use Rattle.judging.proofs.is_stored.Goals as goal

pub returns-then-stored-lt2 : goal.returns-then-stored-lt2
returns-then-stored-lt2 c = stored_short _ _ c.if-stored-lt2.true

pub returns-then-stored-ne61 : goal.returns-then-stored-ne61
returns-then-stored-ne61 c = stored_other _ _ c.if-stored-lt2.false c.if-stored-ne61.true

pub returns-then-stored-ne10 : goal.returns-then-stored-ne10
returns-then-stored-ne10 c = stored_on _ _ c.if-stored-lt2.false c.if-stored-ne61.false c.if-stored-ne10.true

pub returns : goal.returns
returns c =
    let args = c.args in
    stored_rest _ _ c.if-stored-lt2.false c.if-stored-ne61.false c.if-stored-ne10.false
    (c.same.ensures ∙ ap (λ bytes. same_bytes bytes args.printed.now) (rest_whole args.stored.now 2))
