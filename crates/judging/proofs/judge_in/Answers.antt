-- `judge_in` meets its contract: what is put is what the outcome prints, and the bytes that are looked at are zero by the promise of `plan`.
use Rattle.buffers.proofs.Puts.{put_front}
use Rattle.printing.proofs.Printing.{promise_printable}
use Rattle.record_texts.proofs.Judging.{promise_judged}
use Rattle.judging.proofs.judge_in.Goals as goal

pub rest_is_zero-requires : goal.rest_is_zero-requires
rest_is_zero-requires c =
    promise_printable c.plan_and_put-done.ensures.promise

pub returns : goal.returns
returns c =
    let planned = c.plan_and_put-done.ensures in
    promise_judged planned.promise _ c.number_of.ensures c.zero_from.ensures
    c.rest_is_zero.ensures
    (put_front planned.put)
    c.is_stored.ensures
