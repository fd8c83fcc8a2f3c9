-- `list_verdicts::clear_front` meets its contract: the part that is lent comes back as that many zeros.
-- Assumes nothing.
use mathlib.Core.Path.{sym, ◌∙◌, ap}
use lib.ListN.{replicate}
use lib.Seq.{length-take-le}
use Rattle.question_4.proofs.Copies.{put_zeros}
use Rattle.list_verdicts.proofs.clear_front.Goals as goal

pub slice_bounds-clear-end-2 : goal.slice_bounds-clear-end-2
slice_bounds-clear-end-2 c = sym (length-take-le _ _ c.requires)

pub returns : goal.returns
returns c =
    let front = c.clear.ensures ∙ ap (λ k. replicate k 0) (length-take-le _ _ c.requires) in
    rw front (put_zeros _ _ c.requires)
