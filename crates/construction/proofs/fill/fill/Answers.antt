-- `construction::fill::fill` meets its contract: questions 2 and 3, and where both pass the others.
use mathlib.Core.Path.{sym, ap, ◌∙◌}
use Rattle.std.specs.Prelude.{Err}
use Rattle.construction.proofs.Filling.{unreadable, reads, out_of_range, not_unread, readable, in_range_outcome}
use Rattle.promise.proofs.Promises.{settled_zeros}
use Rattle.construction.proofs.fill.fill.Goals as goal

pub check_and_carry_out-requires-clause-readable : goal.check_and_carry_out-requires-clause-readable
check_and_carry_out-requires-clause-readable c =
    let read = reads _ (sym c.read.ensures ∙ c.in-Ok.is) in readable _ read (sym c.first_out_of_range.ensures ∙ c.in-Ok-first_out_of_range.is)

pub check_and_carry_out-requires-clause-long_enough : goal.check_and_carry_out-requires-clause-long_enough
check_and_carry_out-requires-clause-long_enough c = c.requires.long_enough

pub check_and_carry_out-requires-clause-zeros : goal.check_and_carry_out-requires-clause-zeros
check_and_carry_out-requires-clause-zeros c = c.requires.zeros

pub returns-in-Err-clause-settled : goal.returns-in-Err-clause-settled
returns-in-Err-clause-settled c = settled_zeros (unreadable _ (sym c.read.ensures ∙ c.in-Err.is)) c.requires.zeros.0 c.requires.zeros.1

pub returns-in-Err-clause-zeros_2 : goal.returns-in-Err-clause-zeros_2
returns-in-Err-clause-zeros_2 c = c.requires.zeros.2

pub returns-in-Ok-first_out_of_range-clause-settled : goal.returns-in-Ok-first_out_of_range-clause-settled
returns-in-Ok-first_out_of_range-clause-settled c =
    let read = reads _ (sym c.read.ensures ∙ c.in-Ok.is) in rw (in_range_outcome _ read (sym c.first_out_of_range.ensures ∙ c.in-Ok-first_out_of_range.is)) c.check_and_carry_out.ensures.settled

pub returns-in-Ok-first_out_of_range-clause-zeros_2 : goal.returns-in-Ok-first_out_of_range-clause-zeros_2
returns-in-Ok-first_out_of_range-clause-zeros_2 c = c.check_and_carry_out.ensures.zeros_2

pub returns-in-Err-OutOfRange-clause-settled : goal.returns-in-Err-OutOfRange-clause-settled
returns-in-Err-OutOfRange-clause-settled c =
    let read = reads _ (sym c.read.ensures ∙ c.in-Ok.is) in settled_zeros (out_of_range _ read _ (sym c.first_out_of_range.ensures ∙ c.in-Err-OutOfRange.is ∙ ap (λ fault. Err fault) c.in-Err-OutOfRange.field-0-is)) c.requires.zeros.0 c.requires.zeros.1

pub returns-in-Err-OutOfRange-clause-zeros_2 : goal.returns-in-Err-OutOfRange-clause-zeros_2
returns-in-Err-OutOfRange-clause-zeros_2 c = c.requires.zeros.2

pub returns-in-Err-Unread-clause-settled : goal.returns-in-Err-Unread-clause-settled
returns-in-Err-Unread-clause-settled c =
    let read = reads _ (sym c.read.ensures ∙ c.in-Ok.is) in
    absurd (not_unread _ read (sym c.first_out_of_range.ensures ∙ c.in-Err-Unread.is ∙ ap (λ fault. Err fault) c.in-Err-Unread.field-0-is))

pub returns-in-Err-Unread-clause-zeros_2 : goal.returns-in-Err-Unread-clause-zeros_2
returns-in-Err-Unread-clause-zeros_2 c =
    let read = reads _ (sym c.read.ensures ∙ c.in-Ok.is) in
    absurd (not_unread _ read (sym c.first_out_of_range.ensures ∙ c.in-Err-Unread.is ∙ ap (λ fault. Err fault) c.in-Err-Unread.field-0-is))
