-- `judge` meets its contract: the order is scanned up to "=", and what it comes to is compared with the rest of the record.
use mathlib.Core.Path.{sym}
use native.Mathlib.Omega.{arith}
use lib.Seq.{length-take-le}
use Rattle.byte_texts.proofs.Comparing.{rest_whole, first_most}
use Rattle.whole_text.proofs.Whole.{reads_numbers, reads_refused}
use Rattle.record_texts.proofs.Judging.{judged_whole}
use Rattle.judging.proofs.judge.Goals as goal

-- the order ends within the record
pub slice_bounds-scan-end : goal.slice_bounds-scan-end
slice_bounds-scan-end c = sym (length-take-le _ _ (omega (arith, c.find-end.ensures, first_most 61 c.args.bytes.now)))

pub returns-in-Ok : goal.returns-in-Ok
returns-in-Ok c =
    let bytes = c.args.bytes.now in
    let scanned = c.scan in
    judged_whole bytes _ c.find-end.ensures (rest_whole bytes c.find-end.result)
    (reads_numbers scanned.new.list _ scanned.ensures.list_after c.in-Ok.is)
    c.judge_list.ensures

pub returns-in-Err : goal.returns-in-Err
returns-in-Err c =
    let bytes = c.args.bytes.now in
    let scanned = c.scan in
    judged_whole bytes _ c.find-end.ensures (rest_whole bytes c.find-end.result)
    (reads_refused scanned.new.list _ scanned.ensures.list_after c.in-Err.is)
    c.judge_unread.ensures
