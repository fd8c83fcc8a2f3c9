-- `judge_list` meets its contract: the buffers have the lengths that are asked for, as far as there is room.
use mathlib.Core.Path.{◌∙◌}
use native.Mathlib.Omega.{arith}
use lib.ListN.{length-replicate}
use lib.Seq.{length-take-le}
use Rattle.record_texts.proofs.Judging.{judged_alike}
use Rattle.judging.proofs.judge_list.Goals as goal

pub returns : goal.returns
returns c =
    let first = c.least-a.ensures in
    let second = c.least-b.ensures in
    let third = c.least-c.ensures in
    judged_alike _ _ (length-take-le _ _ (rw length-replicate (omega (arith, first))) ∙ first)
    (length-take-le _ _ (rw length-replicate (omega (arith, second))) ∙ second)
    (length-take-le _ _ (rw length-replicate (omega (arith, third))) ∙ third)
    c.judge_in.ensures
