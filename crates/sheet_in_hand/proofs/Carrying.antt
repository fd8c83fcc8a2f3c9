-- From one step to the next: the steps that are left, on the sheet in the buffers, come to what all steps come to.
-- Assumes nothing.
use mathlib.Core.Path.{◌≡◌, refl, sym, ◌∙◌, ap, ap₂, subst}
use mathlib.Core.List.{List, [], ◌∷◌}
use mathlib.Core.Option.{Option, none, some}
use Prim.Native.Nat.{ℕ, zero, suc, ◌+◌, ◌-◌, ◌≤◌, ◌<◌}
use native.Mathlib.Nat.{le_trans}
use native.Mathlib.Omega.{arith}
use borrow.Author.Tests.{ne_eqb}
use lib.IntN.{ℤ}
use lib.ListN.{length, drop, get_elem?, drop_of_length-le}
use Rattle.counting.specs.Table.{Table, columns}
use Rattle.order.specs.Order.{Order, Step, StepLimits}
use Rattle.order.specs.Grammar.{read_order}
use Rattle.order.proofs.OrderLaw.{reads_iff}
use Rattle.step_places.specs.StepCount.{step_count}
use Rattle.sheets.specs.Buffers.{Suffices}
use Rattle.step_tables.specs.Sheet.{AllLevels, Sound, SmallEnough, Agree}
use Rattle.spare.specs.Spare.{spare_of, spare}
use Rattle.sheets.specs.Steps.{Outcome, filled, refused, proceed, provided, first_step, later_step, later_steps, all_steps}
use Rattle.sheets.specs.declared.answer.Refusal.{Refusal}
use Rattle.sheets.specs.declared.answer.Refusal.TheVariants.{StepNotAllowed}
use Rattle.sheets.specs.declared.answer.Answer.{Answer}
use Rattle.sheets.specs.declared.answer.Answer.TheVariants.{Filled, Refused}
use Rattle.step_tables.proofs.Agreement.{agree_refl, agree_sym, agree_columns, agree_levels, agree_array}
use Rattle.sheets.proofs.Carried.{refused_not_filled}
use Rattle.sheets.proofs.Ingredients.{all_at}
use Rattle.sheets.proofs.Sheets.{first_filled, later_filled}
use Rattle.sheets.proofs.StepAgreement.{AgreeOutcome, both_filled, both_refused, provided_agree, later_agree}
use Rattle.layout.specs.Bytes.{Holds, Zeros, LongEnough, sheet_in}
use Rattle.layout.specs.Step.{Readable, Ready, Left}
use Rattle.sheet_in_hand.specs.Stepping.{Prepared, step_on, in_hand, proceed_in}
use Rattle.sheet_in_hand.specs.Carrying.{Passing, hand_after, last_hand, all_in, last_in, hand_runs, hand_levels}
use Rattle.layout.specs.declared.Size.{Size}
use Rattle.promise.proofs.Promises.{refused_unfilled}
use Rattle.layout.proofs.Operands.{in_order_lem}
use Rattle.layout.proofs.Sheets.{holds_agrees, agree_holds}

-- ---- on the way

-- what the steps from number n on come to, by the sheet in hand
pub steps_on : Order → ℕ → Option Table → List Step → Outcome
steps_on o n none steps = all_steps o steps
steps_on o n (some S) steps = later_steps o n S steps

-- a sheet before step number n: sound, within the limits, and of this size, with its spare degrees
pub record Later (number : ℕ) (size : Size) (S : Table) : Type 0 where
  pub later : 2 ≤ number
  pub sound : Sound S
  pub small : SmallEnough S
  pub runs_are : size.runs ≡ S.runs
  pub columns_are : size.columns ≡ columns S
  pub spare_is : size.spare ≡ spare S

-- the sheet in hand before step number n
pub Before : ℕ → Size → Option Table → Type 0
Before n size none = n ≡ 1
Before n size (some S) = Later n size S

-- What the steps take from number n on: a sheet in hand, from which they come to what all steps come to, and end with the sheet with which all
-- steps end. The sheet is the definitions' own.
pub record Underway (list : List ℕ) (number : ℕ) (size : Size) (table levels scratch : List ℕ) : Type 0 where
  pub passing : Passing list
  pub hand : Option Table
  pub before : Before number size hand
  pub runs_first : table ≡ hand_runs (length table) hand
  pub levels_first : levels ≡ hand_levels (length levels) hand
  pub left : all_in list ≡ steps_on passing.readable.order number hand (drop (number - 1) passing.readable.order.steps)
  pub last : last_in list ≡ last_hand passing.readable.order number hand (drop (number - 1) passing.readable.order.steps)
  pub long : LongEnough table levels scratch
  pub clear : Zeros scratch

-- ---- how many steps there are

module _ {list : List ℕ} (read : Readable list) where
  pub steps_counted : step_count (read_order list) ≡ length read.order.steps
  unfolding step_count
  steps_counted = rw read.reads

  pub steps_few : step_count (read_order list) ≤ 16
  steps_few = rw steps_counted ((reads_iff list read.order).0 read.reads).1.step_count.1

-- ---- the steps that are left

-- the first of the steps from place k on, and the others
later_next : (o : Order) (n : ℕ) (S : Table) (steps : List Step) (k : ℕ)
    → k < length steps
    → later_steps o n S (drop k steps) ≡ proceed (provided (get_elem? steps k) (StepNotAllowed n) (later_step o n S)) (λ T. later_steps o (n + 1) T (drop (k + 1) steps))
unfolding later_steps provided
later_next o n S [] k h = absurd (omega arith)
later_next o n S (s ∷ steps) zero h = refl
later_next o n S (s ∷ steps) (suc k) h =
    later_next o n S steps k (omega arith)
    ∙ ap (λ j. proceed (provided (get_elem? steps k) (StepNotAllowed n) (later_step o n S)) (λ T. later_steps o (n + 1) T (drop j (s ∷ steps))))
    (let same : suc (k + 1) ≡ suc k + 1 = omega arith in same)

first_next : (o : Order) (steps : List Step)
    → all_steps o steps ≡ proceed (provided (get_elem? steps 0) (StepNotAllowed 1) (first_step o)) (λ S. later_steps o 2 S (drop 1 steps))
unfolding all_steps provided proceed
first_next o [] = refl
first_next o (s ∷ steps) = refl

-- the step of number n, and the others
left_next : (o : Order) (n : ℕ) (size : Size) (hand : Option Table) (steps : List Step) → Before n size hand → n ≤ length steps
    → steps_on o n hand (drop (n - 1) steps)
    ≡ proceed (provided (get_elem? steps (n - 1)) (StepNotAllowed n) (step_on o n hand)) (λ T. later_steps o (n + 1) T (drop n steps))
unfolding steps_on step_on Before
left_next o n size none steps one more = rw one (first_next o steps)
left_next o n size (some S) steps before more =
    later_next o n S steps (n - 1) (omega (arith, before.later))
    ∙ ap (λ k. proceed (provided (get_elem? steps (n - 1)) (StepNotAllowed n) (later_step o n S)) (λ T. later_steps o (n + 1) T (drop k steps)))
    (let same : n - 1 + 1 ≡ n = omega (arith, before.later) in same)

-- the same of the sheet in hand at the end
last_at : (o : Order) (n : ℕ) (hand : Option Table) (steps : List Step) (k : ℕ) → k < length steps
    → last_hand o n hand (drop k steps)
    ≡ hand_after (provided (get_elem? steps k) (StepNotAllowed n) (step_on o n hand)) hand (λ S. last_hand o (n + 1) (some S) (drop (k + 1) steps))
unfolding last_hand provided
last_at o n hand [] k h = absurd (omega arith)
last_at o n hand (s ∷ steps) zero h = refl
last_at o n hand (s ∷ steps) (suc k) h =
    last_at o n hand steps k (omega arith)
    ∙ ap (λ j. hand_after (provided (get_elem? steps k) (StepNotAllowed n) (step_on o n hand)) hand (λ S. last_hand o (n + 1) (some S) (drop j (s ∷ steps))))
    (let same : suc (k + 1) ≡ suc k + 1 = omega arith in same)

last_next : (o : Order) (n : ℕ) (hand : Option Table) (steps : List Step) → 1 ≤ n → n ≤ length steps
    → last_hand o n hand (drop (n - 1) steps)
    ≡ hand_after (provided (get_elem? steps (n - 1)) (StepNotAllowed n) (step_on o n hand)) hand (λ S. last_hand o (n + 1) (some S) (drop n steps))
last_next o n hand steps low more =
    last_at o n hand steps (n - 1) (omega arith)
    ∙ ap (λ k. hand_after (provided (get_elem? steps (n - 1)) (StepNotAllowed n) (step_on o n hand)) hand (λ S. last_hand o (n + 1) (some S) (drop k steps)))
    (let same : n - 1 + 1 ≡ n = omega arith in same)

left_none : (o : Order) (n : ℕ) (S : Table) (steps : List Step) (k : ℕ) → length steps ≤ k → later_steps o n S (drop k steps) ≡ filled S
unfolding later_steps
left_none o n S steps k h = ap (later_steps o n S) (drop_of_length-le steps h)

-- ---- from one step to the next

pub long_kept : {n m k n' m' k' : ℕ} → Suffices (record { table = n; levels = m; scratch = k }) → n' ≡ n → m' ≡ m → k' ≡ k
    → Suffices (record { table = n'; levels = m'; scratch = k' })
long_kept long table_kept levels_kept scratch_kept =
    record {
      table_long = rw table_kept long.table_long;
      levels_long = rw levels_kept long.levels_long;
      scratch_long = rw scratch_kept long.scratch_long;
    }

sound_agrees : {A B : Table} → Agree A B → Sound A → Sound B
unfolding AllLevels
sound_agrees alike sound =
    record {
      array = agree_array alike 2 sound.array;
      levels_within = λ c h. rw (← agree_levels alike c) (sound.levels_within c (rw (agree_columns alike) h));
    }

small_agrees : {A B : Table} → Agree A B → SmallEnough A → SmallEnough B
small_agrees alike small =
    record { runs_most = rw (← alike.same_runs) small.runs_most; columns_most = rw (← agree_columns alike) small.columns_most }

spare_agrees : {A B : Table} → Agree A B → spare A ≡ spare B
spare_agrees alike = ap₂ spare_of alike.same_runs alike.same_levels

-- ---- the sheet in hand, of the definitions and in bytes

outcome_refl : (x : Outcome) → AgreeOutcome x x
outcome_refl (filled S) = both_filled (agree_refl S)
outcome_refl (refused why) = both_refused why

module _ (list : List ℕ) (number : ℕ) (size : Size) (table levels scratch : List ℕ) (read : Readable list) (long : LongEnough table levels scratch)
    (clear : Zeros scratch) where
  many : {S : Table} → Later number size S → size.columns ≤ 128
  many before = rw before.columns_are before.small.columns_most

  in_bytes : (S : Table) → Later number size S → Holds S table levels → Agree S (sheet_in table levels size)
  in_bytes S before holds =
      holds_agrees S table levels size holds before.runs_are before.columns_are (le_trans (many before) long.levels_long)

  later_ready : (S : Table) → Later number size S → Holds S table levels → Ready list size table levels scratch
  later_ready S before holds =
      let alike = in_bytes S before holds in
      record {
        readable = read;
        long = long;
        columns_most = many before;
        sound = sound_agrees alike before.sound;
        small = small_agrees alike before.small;
        holds = agree_holds alike holds;
        spare_is = before.spare_is ∙ spare_agrees alike;
        scratch_clear = clear;
      }

  prepared : (hand : Option Table) → Before number size hand → table ≡ hand_runs (length table) hand → levels ≡ hand_levels (length levels) hand
      → Prepared list number size table levels scratch
  unfolding Before hand_runs hand_levels Zeros
  prepared none one runs counts =
      record { readable = read; long = long; scratch_clear = clear; blank = λ e. (runs, counts); ready = λ other. absurd (other one) }
  prepared (some S) before runs counts =
      record {
        readable = read;
        long = long;
        scratch_clear = clear;
        blank = λ one. absurd (omega (arith, before.later));
        ready = λ other. later_ready S before (record { runs_first = runs; levels_first = counts });
      }

  -- a step comes to the same on both
  hand_agrees : (o : Order) (hand : Option Table) → Before number size hand → table ≡ hand_runs (length table) hand → levels ≡ hand_levels (length levels) hand
      → (found : Option Step)
      → AgreeOutcome (provided found (StepNotAllowed number) (step_on o number hand)) (provided found (StepNotAllowed number) (step_on o number (in_hand number size table levels)))
  unfolding Before hand_runs hand_levels in_hand step_on
  hand_agrees o none one runs counts found = rw one (outcome_refl _)
  hand_agrees o (some S) before runs counts found =
      let holds : Holds S table levels = record { runs_first = runs; levels_first = counts } in
      rw (ne_eqb number 1 (λ one. omega (arith, before.later)))
      (provided_agree found _ _ _ (λ step. later_agree o number step (in_bytes S before holds) before.sound.array.in_range))

module _ {list : List ℕ} {number : ℕ} {size : Size} {table levels scratch : List ℕ} (way : Underway list number size table levels scratch) where
  -- what the next step takes
  pub underway_prepared : Prepared list number size table levels scratch
  underway_prepared = prepared list number size table levels scratch way.passing.readable way.long way.clear way.hand way.before way.runs_first way.levels_first

  pub underway_numbered : 1 ≤ number
  unfolding Before
  underway_numbered = go way.hand way.before
    where
      go : (hand : Option Table) → Before number size hand → 1 ≤ number
      go none one = omega arith
      go (some S) before = omega (arith, before.later)

-- before the first step
pub underway_start : {list : List ℕ} (size : Size) (table levels scratch : List ℕ) → Passing list → LongEnough table levels scratch
    → Zeros table → Zeros levels → Zeros scratch → Underway list 1 size table levels scratch
unfolding Before hand_runs hand_levels steps_on all_in last_in Zeros
underway_start size table levels scratch pass long table_clear levels_clear clear =
    record {
      passing = pass;
      hand = none;
      before = refl;
      runs_first = table_clear;
      levels_first = levels_clear;
      left = in_order_lem pass.readable _;
      last = rw pass.readable.reads;
      long = long;
      clear = clear;
    }

-- ---- what a step left on the sheet in bytes, for the sheet of the definitions

same_refusal : {why other : Refusal} → Refused why ≡ Refused other → why ≡ other
same_refusal e = cc

same_sizes : {n m k l : ℕ} {x y : ℤ} → Filled n m x ≡ Filled k l y → (n ≡ k) × (m ≡ l) × (x ≡ y)
same_sizes e = (cc, cc, cc)

module _ (table levels table' levels' : List ℕ) where
  agree_refused : {x y : Outcome} {why : Refusal} → AgreeOutcome x y → Left y table levels (Refused why) table' levels'
      → (x ≡ refused why) × (table' ≡ table) × (levels' ≡ levels)
  unfolding Left
  agree_refused (both_filled alike) left = absurd (refused_unfilled left.0)
  agree_refused (both_refused why) left = (ap refused (sym (same_refusal left.0)), left.1, left.2)

  agree_filled : {x y : Outcome} {n m : ℕ} {spared : ℤ} → AgreeOutcome x y → Left y table levels (Filled n m spared) table' levels'
      → (S : Table) × (x ≡ filled S) × (n ≡ S.runs) × (m ≡ columns S) × (spared ≡ spare S) × Holds S table' levels'
  unfolding Left
  agree_filled (both_filled {A} {B} alike) left =
      let (runs, many, spare_is) = same_sizes left.0 in
      (A, refl, runs ∙ sym alike.same_runs, many ∙ sym (agree_columns alike), spare_is ∙ sym (spare_agrees alike), agree_holds (agree_sym alike) left.1)
  agree_filled (both_refused why) left = absurd (refused_unfilled (sym left.0))

-- a step that is provided and filled leaves a sound sheet
provided_sound : {list : List ℕ} (pass : Passing list) (n k : ℕ) (size : Size) (hand : Option Table) → Before n size hand → (found : Option Step)
    → get_elem? pass.readable.order.steps k ≡ found
    → {F : Table} → provided found (StepNotAllowed n) (step_on pass.readable.order n hand) ≡ filled F → Sound F × SmallEnough F
unfolding provided step_on Before
provided_sound pass n k size hand before none there e = absurd (refused_not_filled e)
provided_sound {list} pass n k size none before (some step) there e =
    let read = pass.readable in
    first_filled read.order ((reads_iff list read.order).0 read.reads).1 read.in_range pass.passing step e
provided_sound {list} pass n k size (some S) before (some step) there e =
    let read = pass.readable in
    let limits = ((reads_iff list read.order).0 read.reads).1 in
    later_filled read.order limits read.in_range pass.passing n S before.sound step (all_at StepLimits read.order.steps limits.each_step k there) e

module _ {list : List ℕ} {number : ℕ} {size : Size} {table levels scratch : List ℕ} (way : Underway list number size table levels scratch)
    (more : number ≤ length way.passing.readable.order.steps) where
  the_steps : List Step
  the_steps = way.passing.readable.order.steps

  next : Option Table → Outcome
  next hand = provided (get_elem? the_steps (number - 1)) (StepNotAllowed number) (step_on way.passing.readable.order number hand)

  next_agrees : AgreeOutcome (next way.hand) (proceed_in list number (in_hand number size table levels))
  unfolding next proceed_in the_steps
  next_agrees =
      subst (AgreeOutcome (next way.hand)) (sym (in_order_lem way.passing.readable _))
      (hand_agrees list number size table levels scratch way.passing.readable way.long way.clear way.passing.readable.order way.hand way.before way.runs_first way.levels_first _)

  others : Table → Outcome
  others T = later_steps way.passing.readable.order (number + 1) T (drop number the_steps)

  left_is : all_in list ≡ proceed (next way.hand) others
  unfolding next others the_steps
  left_is = way.left ∙ left_next way.passing.readable.order number size way.hand the_steps way.before more

  following : Table → Option Table
  following S = last_hand way.passing.readable.order (number + 1) (some S) (drop number the_steps)

  last_is : last_in list ≡ hand_after (next way.hand) way.hand following
  unfolding next following the_steps
  last_is = way.last ∙ last_next way.passing.readable.order number way.hand the_steps (underway_numbered way) more

  pub step_refused : {answer : Answer} (why : Refusal) (table' levels' : List ℕ) → answer ≡ Refused why
      → Left (proceed_in list number (in_hand number size table levels)) table levels answer table' levels'
      → Left (all_in list) (hand_runs (length table) (last_in list)) (hand_levels (length levels) (last_in list)) (Refused why) table' levels'
  unfolding proceed hand_after Left
  step_refused why table' levels' is left =
      let (refuses, same_table, same_levels) = agree_refused table levels table' levels' next_agrees (rw is at left) in
      rw (left_is ∙ ap (λ x. proceed x others) refuses, last_is ∙ ap (λ x. hand_after x way.hand following) refuses)
      (refl, same_table ∙ way.runs_first, same_levels ∙ way.levels_first)

  pub step_filled : {answer : Answer} (n m : ℕ) (spared : ℤ) (table' levels' scratch' : List ℕ) → answer ≡ Filled n m spared
      → Left (proceed_in list number (in_hand number size table levels)) table levels answer table' levels'
      → length table' ≡ length table → length levels' ≡ length levels → length scratch' ≡ length scratch
      → Zeros scratch' → {kept : ℤ} → kept ≡ spared
      → Underway list (number + 1) (record { runs = n; columns = m; spare = kept }) table' levels' scratch'
  unfolding proceed hand_after next others following the_steps steps_on Before hand_runs hand_levels
  step_filled n m spared table' levels' scratch' is left table_kept levels_kept scratch_kept clear spare_kept =
      let (S, same, runs, many, spare_is, holds) = agree_filled table levels table' levels' next_agrees (rw is at left) in
      let back : number ≡ number + 1 - 1 = omega arith in
      let (sound, small) = provided_sound way.passing number (number - 1) size way.hand way.before _ refl same in
      record {
        passing = way.passing;
        hand = some S;
        before =
            record {
              later = omega (arith, underway_numbered way);
              sound = sound;
              small = small;
              runs_are = runs;
              columns_are = many;
              spare_is = spare_kept ∙ spare_is;
            };
        runs_first = holds.runs_first;
        levels_first = holds.levels_first;
        left =
            left_is
            ∙ ap (λ x. proceed x others) same
            ∙ ap (λ k. later_steps way.passing.readable.order (number + 1) S (drop k the_steps)) back;
        last =
            last_is
            ∙ ap (λ x. hand_after x way.hand following) same
            ∙ ap (λ k. last_hand way.passing.readable.order (number + 1) (some S) (drop k the_steps)) back;
        long = long_kept way.long table_kept levels_kept scratch_kept;
        clear = clear;
      }

-- no step is left
pub none_left : {list : List ℕ} {number : ℕ} {size : Size} {table levels scratch : List ℕ} (way : Underway list number size table levels scratch)
    → length way.passing.readable.order.steps < number → (runs counts : List ℕ) {spared : ℤ} → spared ≡ size.spare
    → Left (all_in list) runs counts (Filled size.runs size.columns spared) table levels
unfolding Before hand_runs hand_levels steps_on Left
none_left {list} {number} {size} {table} {levels} way done runs counts {spared} kept = go way.hand way.before way.runs_first way.levels_first way.left
  where
    go : (hand : Option Table) → Before number size hand → table ≡ hand_runs (length table) hand → levels ≡ hand_levels (length levels) hand
        → all_in list ≡ steps_on way.passing.readable.order number hand (drop (number - 1) way.passing.readable.order.steps)
        → Left (all_in list) runs counts (Filled size.runs size.columns spared) table levels
    go none one runs_first levels_first left =
        absurd (omega (arith, done, ((reads_iff list way.passing.readable.order).0 way.passing.readable.reads).1.step_count.0))
    go (some S) before runs_first levels_first left =
        subst (λ x. Left x runs counts (Filled size.runs size.columns spared) table levels)
        (sym
        (left ∙ left_none way.passing.readable.order number S way.passing.readable.order.steps (number - 1) (omega (arith, before.later, done))))
        (cc, record { runs_first = runs_first; levels_first = levels_first })
