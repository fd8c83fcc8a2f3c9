-- `construction::fill::check_and_carry_out` meets its contract: question 4, and where every ingredient passes all steps.
use mathlib.Core.Path.{refl, sym, ◌∙◌}
use lib.ListN.{length}
use Rattle.layout.specs.Bytes.{Zeros}
use Rattle.layout.proofs.Bytes.{zeros_all}
use Rattle.sheet_in_hand.proofs.Carrying.{long_kept}
use Rattle.construction.proofs.Filling.{still_in_range, all_pass, passed_all, passed_refused}
use Rattle.promise.proofs.Promises.{settled_zeros}
use Rattle.construction.proofs.fill.check_and_carry_out.Goals as goal

pub first_failing-requires-clause-list_value : goal.first_failing-requires-clause-list_value
unfolding Zeros
first_failing-requires-clause-list_value c =
    let pre = c.requires in still_in_range pre.readable

pub first_failing-requires-clause-room : goal.first_failing-requires-clause-room
unfolding Zeros
first_failing-requires-clause-room c =
    let pre = c.requires in record {
      cells_long = pre.long_enough.scratch_long;
      numbers_long = pre.long_enough.levels_long;
      cells_clear = pre.zeros.2;
      numbers_clear = pre.zeros.1;
    }

pub carry_or_clear-requires-clause-passing : goal.carry_or_clear-requires-clause-passing
carry_or_clear-requires-clause-passing c =
    let pre = c.requires in
    let kept = c.first_failing.auto in
    let found = sym c.first_failing.ensures.value ∙ c.in-Ok.is in all_pass pre.readable found

pub carry_or_clear-requires-clause-long_enough : goal.carry_or_clear-requires-clause-long_enough
carry_or_clear-requires-clause-long_enough c =
    let pre = c.requires in
    let kept = c.first_failing.auto in
    let found = sym c.first_failing.ensures.value ∙ c.in-Ok.is in long_kept pre.long_enough refl kept.numbers kept.cells

pub carry_or_clear-requires-clause-zeros : goal.carry_or_clear-requires-clause-zeros
carry_or_clear-requires-clause-zeros c =
    let pre = c.requires in
    let kept = c.first_failing.auto in
    let found = sym c.first_failing.ensures.value ∙ c.in-Ok.is in (pre.zeros.0, zeros_all (length c.args.levels.now) c.first_failing.ensures.numbers_after, zeros_all (length c.args.scratch.now) c.first_failing.ensures.cells_after)

pub returns-in-Ok-clause-settled : goal.returns-in-Ok-clause-settled
returns-in-Ok-clause-settled c =
    let pre = c.requires in
    let found = sym c.first_failing.ensures.value ∙ c.in-Ok.is in rw (passed_all pre.readable found) c.carry_or_clear.ensures.settled

pub returns-in-Ok-clause-zeros_2 : goal.returns-in-Ok-clause-zeros_2
returns-in-Ok-clause-zeros_2 c =
    let pre = c.requires in
    let found = sym c.first_failing.ensures.value ∙ c.in-Ok.is in c.carry_or_clear.ensures.zeros_2

pub returns-in-Err-clause-settled : goal.returns-in-Err-clause-settled
returns-in-Err-clause-settled c =
    let found = sym c.first_failing.ensures.value ∙ c.in-Err.is in settled_zeros (passed_refused c.requires.readable _ found) c.requires.zeros.0
    (zeros_all (length c.args.levels.now) c.first_failing.ensures.numbers_after)

pub returns-in-Err-clause-zeros_2 : goal.returns-in-Err-clause-zeros_2
returns-in-Err-clause-zeros_2 c =
    let found = sym c.first_failing.ensures.value ∙ c.in-Err.is in zeros_all (length c.args.scratch.now) c.first_failing.ensures.cells_after
