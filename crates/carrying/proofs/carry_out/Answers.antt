-- `carrying::carry_out` meets its contract. The invariant: the sheet in hand is in the buffers, and from it the steps that are left come
-- to what all steps come to, and end with the sheet with which all steps end.
use mathlib.Core.Path.{◌≡◌}
use mathlib.Core.List.{List}
use Prim.Native.Nat.{ℕ, ◌+◌, ◌≤◌, ◌<◌}
use native.Mathlib.Omega.{arith}
use borrow.Author.Rules.{rules}
use mir.Facts.{to_z-of_z}
use mir.Syntax.{w64}
use mir.Val.{SFits}
use lib.ListN.{length}
use Rattle.order.specs.Grammar.{read_order}
use Rattle.step_places.specs.StepCount.{step_count}
use Rattle.layout.specs.declared.Size.{Size}
use Rattle.sheet_in_hand.proofs.Carrying.{Underway, underway_start, underway_numbered, underway_prepared, steps_counted, step_refused, step_filled, none_left}
use Rattle.carrying.proofs.carry_out.Goals as goal
use Rattle.carrying.proofs.carry_out.Goals.{Left-loop-number, else-loop-number-test, then-loop-number-test+in-Filled+else-number-last}

-- a step is left where the number is not past the last
more_left : {list : List ℕ} {number last : ℕ} {size : Size} {table levels scratch : List ℕ} (way : Underway list number size table levels scratch)
    → last ≡ step_count (read_order list) → number ≤ last → number ≤ length way.passing.readable.order.steps
more_left way counted below = omega (arith, counted, steps_counted way.passing.readable)

-- all steps up to the last are carried out, and left this sheet
record Ended (list : List ℕ) (last : ℕ) (size : Size) (table levels scratch : List ℕ) : Type 0 where
  number : ℕ
  past : last < number
  way : Underway list number size table levels scratch

pub loop-number-init : goal.loop-number-init
loop-number-init c =
    let pre = c.requires in underway_start _ _ _ _ pre.passing pre.long_enough pre.zeros.0 pre.zeros.1 pre.zeros.2

pub proceed-requires-clause-le_number : goal.proceed-requires-clause-le_number
proceed-requires-clause-le_number c = underway_numbered c.loop-number.invariant

pub proceed-requires-clause-prepared : goal.proceed-requires-clause-prepared
proceed-requires-clause-prepared c = underway_prepared c.loop-number.invariant

pub returns-in-Refused-clause-left : goal.returns-in-Refused-clause-left
returns-in-Refused-clause-left c =
    let way = c.loop-number.invariant in rw (← c.loop-number.auto.table, ← c.loop-number.auto.levels)
    (step_refused way (more_left way c.step_count-last.ensures (omega arith)) _ _ _ c.in-Refused.is c.proceed.ensures.left)

pub loop-number-preserved : goal.loop-number-preserved
loop-number-preserved c =
    let way = c.loop-number.invariant in
    let kept = c.proceed.auto in
    let filled = c.in-Filled in
    let word : SFits w64 filled.spare = search rules in
    step_filled way (more_left way c.step_count-last.ensures (omega arith)) _ _ _ _ _ _ filled.is c.proceed.ensures.left kept.table kept.levels kept.scratch c.proceed.ensures.zeros (to_z-of_z word)

ended : (c : Left-loop-number) → Ended c.args.list.now c.step_count-last.result c.loop-number-test.size c.loop-number-test.table c.loop-number-test.levels c.loop-number-test.scratch
ended c =
    let way = c.loop-number.invariant in
    elim c.loop-number-test.branch [
      | else-loop-number-test w ↦
          record { number = c.loop-number.number; past = omega arith; way = rw (w.size-is, w.table-is, w.levels-is, w.scratch-is) way }
      | then-loop-number-test+in-Filled+else-number-last w ↦
          let kept = w.proceed.auto in
          let word : SFits w64 w.in-Filled.spare = search rules in
          record {
            number = c.loop-number.number + 1;
            past = omega arith;
            way = rw (w.size-is, w.table-is, w.levels-is, w.scratch-is)
                (step_filled way (more_left way c.step_count-last.ensures w.loop-number-test.true) _ _ _ _ _ _ w.in-Filled.is w.proceed.ensures.left kept.table kept.levels kept.scratch w.proceed.ensures.zeros (to_z-of_z word));
          }
    ]

pub returns : goal.returns
returns c =
    let all = ended (goal.at.returns c).Left-loop-number in
    let past = all.past in
    let word : SFits w64 c.loop-number-test.size.spare = search rules in
    record {
      left = none_left all.way (omega (arith, past, c.step_count-last.ensures, steps_counted all.way.passing.readable)) _ _ (to_z-of_z word);
      zeros_2 = all.way.clear;
    }
