-- The whole promise of `plan` follows from the answer and the bytes: filled exactly where the conditions hold, and then even.
-- Assumes nothing.
use mathlib.Core.Path.{◌≡◌, refl, sym, ◌∙◌, ap, ap₂, subst}
use mathlib.Core.Logic.{◌≢◌, ◌↔◌}
use mathlib.Core.Bool.{Bool, true, false, cond, ◌&&◌, and-true}
use mathlib.Core.List.{List, [], ◌∷◌}
use Prim.Native.Nat.{ℕ, ◌+◌, ◌*◌, ◌≤◌, ◌<◌}
use native.Mathlib.Nat.{mul-one, le_trans}
use native.Mathlib.Omega.{arith}
use lib.Dec.{T, eqb, leb, leb→le, le→leb, lit≤}
use lib.IntN.{ℤ}
use lib.ListN.{length, get_or, take, length-replicate}
use Rattle.finite.specs.Sum.{count}
use Rattle.finite.proofs.Counts.{count_ext}
use Rattle.finite.proofs.Tests.{T_and}
use Rattle.counting.specs.Table.{Table, columns, levels_of, shows, times, combinations, Apart, Settings, InRange, Even}
use Rattle.sheets.specs.Refusals.{refusal_number, RefusesOrders, answer_numbers}
use Rattle.step_tables.specs.Sheet.{Sound, SmallEnough}
use Rattle.spare.specs.Spare.{spare_of, spare}
use Rattle.spare.proofs.Rao.{spare_never_negative}
use Rattle.sheets.specs.Steps.{Outcome, filled, refused}
use Rattle.sheets.specs.Outcome.{outcome}
use Rattle.sheets.specs.Fillable.{Fillable, ordered_table}
use Rattle.sheets.specs.declared.answer.Refusal.{Refusal}
use Rattle.sheets.specs.declared.answer.Refusal.TheVariants.{ShortBuffers}
use Rattle.sheets.specs.declared.answer.Answer.{Answer}
use Rattle.sheets.specs.declared.answer.Answer.TheVariants.{Filled, Refused}
use Rattle.sheets.proofs.Carried.{refused_not_filled}
use Rattle.sheets.proofs.NonEmpty.{NonEmpty}
use Rattle.sheets.proofs.Filled.{filled_fillable, fillable_filled, filled_sound, filled_some}
use Rattle.sheets.proofs.Numbers.{number_known}
use Rattle.causes.specs.Causes.{Cause}
use Rattle.causes.proofs.Refused.{refused_cause}
use Rattle.layout.specs.Bytes.{runs_of, zeros, padded, Holds, Zeros, lengths_of, LongEnough}
use Rattle.layout.specs.Step.{Left}
use Rattle.promise.specs.Promise.{suffice, planned, answer_to, planned_numbers, table_bytes, level_bytes, Settled, EvenBytes, SpareDegrees, Delivered, Promise}
use Rattle.layout.proofs.Bytes.{runs_length, runs_cell, zeros_all}
use Rattle.layout.proofs.Sheets.{padded_length, padded_at, padded_front, padded_within, cells_few}

-- ---- a sound table in bytes is even there

module _ (S : Table) (table levels : List ℕ) (holds : Holds S table levels) where
  byte_level : (c : ℕ) → get_or levels c 0 ≡ levels_of S c
  byte_level c = ap (λ xs. get_or xs c 0) holds.levels_first ∙ padded_at (length levels) S.levels c

  byte_cell : (r c : ℕ) → r < S.runs → c < columns S → get_or table (r * columns S + c) 0 ≡ S.cell r c
  byte_cell r c h k =
      ap (λ xs. get_or xs (r * columns S + c) 0) holds.runs_first
      ∙ padded_at (length table) (runs_of S) (r * columns S + c)
      ∙ runs_cell S r c h k

  module _ (sound : Sound S) where
    one_even : (c x : ℕ) → c < columns S → x < levels_of S c
        → levels_of S c * count S.runs (λ r. eqb (get_or table (r * columns S + c) 0) x) ≡ S.runs
    unfolding Even Settings Apart combinations times shows
    one_even c x h k =
        ap₂ ◌*◌ (sym (mul-one (levels_of S c)))
        (count_ext S.runs (λ r l. ap (λ v. eqb v x) (byte_cell r c l h) ∙ sym (and-true (eqb (S.cell r c) x))))
        ∙ sound.array.even (record { column = c; level = x } ∷ []) (lit≤ tt) (h, k, tt, tt)

    two_even : (c d x y : ℕ) → c < columns S → d < columns S → c ≢ d → x < levels_of S c → y < levels_of S d
        → levels_of S c * levels_of S d * count S.runs (λ r. eqb (get_or table (r * columns S + c) 0) x && eqb (get_or table (r * columns S + d) 0) y)
        ≡ S.runs
    unfolding Even Settings Apart combinations times shows
    two_even c d x y h k apart l m =
        ap₂ ◌*◌ (ap (λ v. levels_of S c * v) (sym (mul-one (levels_of S d))))
        (count_ext S.runs (λ r b.
        ap₂ (λ u v. eqb u x && eqb v y) (byte_cell r c b h) (byte_cell r d b k)
        ∙ ap (λ v. eqb (S.cell r c) x && v) (sym (and-true (eqb (S.cell r d) y)))))
        ∙ sound.array.even (record { column = c; level = x } ∷ record { column = d; level = y } ∷ []) (lit≤ tt) (h, l, (apart, tt), (k, m, tt, tt))

    pub even_bytes : NonEmpty S → EvenBytes S.runs (columns S) table levels
    unfolding InRange
    even_bytes there =
        record {
          runs_some = there.runs_some;
          columns_some = there.columns_some;
          entries_there = rw (← runs_length S) (padded_within table (runs_of S) holds.runs_first);
          counts_there = padded_within levels S.levels holds.levels_first;
          in_range = λ r c h k. rw (byte_cell r c h k, byte_level c) (sound.array.in_range r c h k);
          levels_even = λ c x h k. rw (byte_level c) (one_even c x h (rw (← byte_level c) k));
          pairs_even = λ c d x y h k apart l m.
              rw (byte_level c, byte_level d) (two_even c d x y h k apart (rw (← byte_level c) l) (rw (← byte_level d) m));
        }

    pub spare_bytes : NonEmpty S → SpareDegrees S.runs (columns S) (spare S) levels
    spare_bytes there =
        record {
          worked_out = ap (spare_of S.runs) (sym (ap (take (columns S)) holds.levels_first ∙ padded_front (length levels) (columns S) S.levels refl));
          never_negative = spare_never_negative S sound.array.even sound.array.in_range there.runs_some;
        }

-- ---- the answer and the bytes decide the rest

pub long_enough : (table levels scratch : List ℕ) → T (suffice (length table) (length levels) (length scratch)) ↔ LongEnough table levels scratch
long_enough table levels scratch = (
  λ t.
      let outer = (T_and (leb 65536 (length table) && leb 128 (length levels)) (leb 65536 (length scratch))).0 t in
      let inner = (T_and (leb 65536 (length table)) (leb 128 (length levels))).0 outer.0 in
      record {
        table_long = leb→le 65536 (length table) inner.0;
        levels_long = leb→le 128 (length levels) inner.1;
        scratch_long = leb→le 65536 (length scratch) outer.1;
      },
  λ long.
      (T_and (leb 65536 (length table) && leb 128 (length levels)) (leb 65536 (length scratch))).1
      ((T_and (leb 65536 (length table)) (leb 128 (length levels))).1 (le→leb 65536 (length table) long.table_long, le→leb 128 (length levels) long.levels_long), le→leb 65536 (length scratch) long.scratch_long),
)

refused_injective : {why other : Refusal} → refused why ≡ refused other → why ≡ other
refused_injective e = cc

pub refused_unfilled : {why : Refusal} {N m : ℕ} {spared : ℤ} → Refused why ≡ Filled N m spared → ⊥
refused_unfilled e = let none : ◌≡◌ {A = ℕ} 0 1 = cc in absurd (omega arith)

-- a filled answer is the size of a table that the outcome has, and its spare degrees
pub filled_answer : (o : Outcome) {N m : ℕ} {spared : ℤ} → answer_to o ≡ Filled N m spared
    → (S : Table) × (o ≡ filled S) × (S.runs ≡ N) × (columns S ≡ m) × (spare S ≡ spared)
unfolding answer_to
filled_answer (filled S) e = (S, refl, cc, cc, cc)
filled_answer (refused why) e = absurd (refused_unfilled e)

-- an outcome that is filled passed question 1
pub asked_first : (b : Bool) (o : Outcome) {S : Table} → cond b o (refused ShortBuffers) ≡ filled S → T b × (o ≡ filled S)
asked_first true o e = (tt, e)
asked_first false o e = absurd (refused_not_filled e)

-- a table within the limits, padded to buffers that are long enough, lies in them
pub padded_holds : (S : Table) (n m : ℕ) (table levels : List ℕ) → SmallEnough S → 65536 ≤ n → 128 ≤ m
    → table ≡ padded n (runs_of S) → levels ≡ padded m S.levels → Holds S table levels
padded_holds S n m table levels small table_long levels_long table_is levels_are =
    let room : length (runs_of S) ≤ n = le_trans (rw (runs_length S) (cells_few small.runs_most small.columns_most)) table_long in
    record {
      runs_first = table_is ∙ ap (λ k. padded k (runs_of S)) (sym (ap length table_is ∙ padded_length n (runs_of S) room));
      levels_first =
          levels_are ∙ ap (λ k. padded k S.levels) (sym (ap length levels_are ∙ padded_length m S.levels (le_trans small.columns_most levels_long)));
    }

planned_passed : (list table levels scratch : List ℕ) {S : Table} → planned list (length table) (length levels) (length scratch) ≡ filled S
    → LongEnough table levels scratch × (outcome list ≡ filled S)
unfolding planned
planned_passed list table levels scratch e =
    let (suffices, done) = asked_first (suffice (length table) (length levels) (length scratch)) (outcome list) e in
    ((long_enough table levels scratch).0 suffices, done)

cond_true : {A : Type 0} (b : Bool) (x y : A) → T b → cond b x y ≡ x
cond_true true x y t = refl
cond_true false x y t = absurd t

-- where a list is filled, and question 1 passes, so are the buffers
planned_filled : (list table levels scratch : List ℕ) → LongEnough table levels scratch → (f : Fillable list)
    → planned list (length table) (length levels) (length scratch) ≡ filled (ordered_table list f)
unfolding planned
planned_filled list table levels scratch long f =
    cond_true (suffice (length table) (length levels) (length scratch)) (outcome list) (refused ShortBuffers) ((long_enough table levels scratch).1 long) ∙ fillable_filled list f

-- a refusal has its cause, that of question 1 or of one of the others
refused_planned : (list table levels scratch : List ℕ) {why : Refusal} → planned list (length table) (length levels) (length scratch) ≡ refused why
    → Cause list (lengths_of table levels scratch) why
unfolding planned Cause
refused_planned list table levels scratch {why} e = asked (suffice (length table) (length levels) (length scratch)) refl e
  where
    asked : (b : Bool) → suffice (length table) (length levels) (length scratch) ≡ b → cond b (outcome list) (refused ShortBuffers) ≡ refused why
        → Cause list (lengths_of table levels scratch) why
    asked true is e = refused_cause list (lengths_of table levels scratch) ((long_enough table levels scratch).0 (subst T (sym is) tt)) e
    asked false is e =
        subst (Cause list (lengths_of table levels scratch)) (refused_injective e)
        (λ long. subst T is ((long_enough table levels scratch).1 long))

-- a refused answer is that of a refused outcome
refused_answer : (o : Outcome) {why : Refusal} → answer_to o ≡ Refused why → o ≡ refused why
unfolding answer_to
refused_answer (filled S) e = absurd (refused_unfilled (sym e))
refused_answer (refused other) e = ap refused cc

-- an outcome's numbers are its answer's
outcome_numbers : (o : Outcome) → answer_numbers (answer_to o) ≡ planned_numbers o
unfolding answer_numbers answer_to planned_numbers
outcome_numbers (filled S) = refl
outcome_numbers (refused why) = refl

-- The record of promises from the answer and the bytes.
module _ (list table levels scratch : List ℕ) (answer : Answer) (table' levels' scratch' : List ℕ)
    (answered : answer ≡ answer_to (planned list (length table) (length levels) (length scratch)))
    (table_is : table' ≡ table_bytes (length table) (planned list (length table) (length levels) (length scratch)))
    (levels_are : levels' ≡ level_bytes (length levels) (planned list (length table) (length levels) (length scratch)))
    (scratch_is : scratch' ≡ zeros (length scratch)) where
  filled_conditions : (N m : ℕ) (spared : ℤ) → answer ≡ Filled N m spared → LongEnough table levels scratch × Fillable list
  filled_conditions N m spared e =
      let (S, same, runs, many, spare_is) = filled_answer _ (sym answered ∙ e) in
      let (long, done) = planned_passed list table levels scratch same in
      (long, (filled_fillable list done).0)

  conditions_filled : LongEnough table levels scratch → (f : Fillable list)
      → answer ≡ Filled (ordered_table list f).runs (columns (ordered_table list f)) (spare (ordered_table list f))
  unfolding answer_to
  conditions_filled long f = answered ∙ ap answer_to (planned_filled list table levels scratch long f)

  conditions_ordered : LongEnough table levels scratch → (f : Fillable list)
      → Delivered (ordered_table list f) (length table) (length levels) answer table' levels'
  unfolding table_bytes level_bytes
  conditions_ordered long f =
      let fills = planned_filled list table levels scratch long f in
      record {
        size_is = conditions_filled long f;
        runs_are = table_is ∙ ap (table_bytes (length table)) fills;
        counts_are = levels_are ∙ ap (level_bytes (length levels)) fills;
      }

  -- what holds of every sound table in bytes, of its size and its spare degrees, holds where they are answered
  filled_bytes : (P : ℕ → ℕ → ℤ → Type 0) → ((S : Table) → Holds S table' levels' → Sound S → NonEmpty S → P S.runs (columns S) (spare S))
      → (N m : ℕ) (spared : ℤ) → answer ≡ Filled N m spared → P N m spared
  unfolding table_bytes level_bytes
  filled_bytes P each N m spared e =
      let (S, same, runs, many, spare_is) = filled_answer _ (sym answered ∙ e) in
      let (long, done) = planned_passed list table levels scratch same in
      let (sound, small) = filled_sound list done in
      let holds =
      padded_holds S (length table) (length levels) table' levels' small long.table_long long.levels_long
      (table_is ∙ ap (table_bytes (length table)) same)
      (levels_are ∙ ap (level_bytes (length levels)) same)
      in
      subst (λ n. P n m spared) runs
      (subst (λ k. P S.runs k spared) many (subst (P S.runs (columns S)) spare_is (each S holds sound (filled_some list done))))

  refused_for : (why : Refusal) → answer ≡ Refused why
      → RefusesOrders (refusal_number why) × Cause list (lengths_of table levels scratch) why
  refused_for why e = (number_known why, refused_planned list table levels scratch (refused_answer _ (sym answered ∙ e)))

  in_numbers : answer_numbers answer ≡ planned_numbers (planned list (length table) (length levels) (length scratch))
  in_numbers = ap answer_numbers answered ∙ outcome_numbers (planned list (length table) (length levels) (length scratch))

  pub promised : Promise list table levels scratch answer table' levels' scratch'
  promised =
      record {
        answered = answered;
        table_is = table_is;
        levels_are = levels_are;
        scratch_is = scratch_is;
        filled_when = (λ p. filled_conditions p.0 p.1 p.2 p.3, λ q. (_, _, _, conditions_filled q.0 q.1));
        ordered = conditions_ordered;
        even = filled_bytes (λ N m spared. EvenBytes N m table' levels') (λ S holds sound there. even_bytes S table' levels' holds sound there);
        spare_is = filled_bytes (λ N m spared. SpareDegrees N m spared levels') (λ S holds sound there. spare_bytes S table' levels' holds sound there);
        refused_for = refused_for;
        in_numbers = in_numbers;
      }

-- ---- from what the questions left

left_answer : (x : Outcome) (was_table was_levels : List ℕ) {answer : Answer} (table levels : List ℕ) → Left x was_table was_levels answer table levels
    → answer ≡ answer_to x
unfolding Left answer_to
left_answer (filled S) was_table was_levels table levels left = left.0
left_answer (refused why) was_table was_levels table levels left = left.0

left_filled : (x : Outcome) (was_table was_levels : List ℕ) (n m : ℕ) (spared : ℤ) (table levels : List ℕ) → Left x was_table was_levels (Filled n m spared) table levels
    → (table ≡ table_bytes (length table) x) × (levels ≡ level_bytes (length levels) x)
unfolding Left table_bytes level_bytes
left_filled (filled S) was_table was_levels n m spared table levels left = (left.1.runs_first, left.1.levels_first)
left_filled (refused why) was_table was_levels n m spared table levels left = absurd (refused_unfilled (sym left.0))

left_refused : (x : Outcome) (was_table was_levels : List ℕ) (why : Refusal) (table levels : List ℕ) → Left x was_table was_levels (Refused why) table levels
    → x ≡ refused why
unfolding Left
left_refused (filled S) was_table was_levels why table levels left = absurd (refused_unfilled left.0)
left_refused (refused other) was_table was_levels why table levels left = let same = left.0 in ap refused cc

-- question 1 decides whether the others are asked
planned_short : (list : List ℕ) (n m k : ℕ) → suffice n m k ≡ false → planned list n m k ≡ refused ShortBuffers
unfolding planned
planned_short list n m k short = ap (λ b. cond b (outcome list) (refused ShortBuffers)) short

planned_long : (list : List ℕ) (n m k : ℕ) → suffice n m k ≡ true → planned list n m k ≡ outcome list
unfolding planned
planned_long list n m k long = ap (λ b. cond b (outcome list) (refused ShortBuffers)) long

-- buffers of a program's lengths pass question 1, so that what comes of a list is what the list itself comes to
pub least_buffers : (list : List ℕ) {n m k : ℕ} → 65536 ≡ n → 128 ≡ m → 65536 ≡ k → planned list n m k ≡ outcome list
least_buffers list a b c = rw (← a, ← b, ← c) (planned_long list 65536 128 65536 refl)

-- what a filled outcome leaves
pub settled_filled : (x : Outcome) (was_table was_levels : List ℕ) {answer : Answer} (n m : ℕ) {spared kept : ℤ} {table levels : List ℕ} → answer ≡ Filled n m spared
    → kept ≡ spared → Left x was_table was_levels answer table levels
    → Settled x (Filled n m kept) table levels
settled_filled x was_table was_levels n m {spared} {kept} {table} {levels} is same left =
    let fills : Left x was_table was_levels (Filled n m kept) table levels = rw (is ∙ ap (Filled n m) (sym same)) at left in
    let bytes = left_filled x was_table was_levels n m kept table levels fills in
    record { answered = left_answer x was_table was_levels table levels fills; table_is = bytes.0; levels_are = bytes.1 }

-- zeros, where the outcome is a refusal
pub settled_zeros : {x : Outcome} {why : Refusal} {table levels : List ℕ} → x ≡ refused why → Zeros table → Zeros levels
    → Settled x (Refused why) table levels
unfolding Zeros answer_to table_bytes level_bytes
settled_zeros refuses table_clear levels_clear =
    record { answered = rw refuses; table_is = rw refuses table_clear; levels_are = rw refuses levels_clear }

pub settled_refused : (x : Outcome) (was_table was_levels : List ℕ) {answer : Answer} (why : Refusal) (left_table left_levels : List ℕ) {table levels : List ℕ}
    → answer ≡ Refused why → Left x was_table was_levels answer left_table left_levels
    → table ≡ zeros (length left_table) → levels ≡ zeros (length left_levels)
    → Settled x (Refused why) table levels
settled_refused x was_table was_levels why left_table left_levels is left table_is levels_are =
    settled_zeros (left_refused x was_table was_levels why left_table left_levels (rw is at left))
    (zeros_all (length left_table) table_is)
    (zeros_all (length left_levels) levels_are)

-- The promise of `plan`, where the buffers were cleared first.
module _ (list table levels scratch : List ℕ) {clear_table clear_levels clear_scratch : List ℕ} (cleared : clear_table ≡ zeros (length table))
    (cleared_levels : clear_levels ≡ zeros (length levels)) (cleared_scratch : clear_scratch ≡ zeros (length scratch)) where
  same_table : length clear_table ≡ length table
  same_table = ap length cleared ∙ length-replicate (length table) 0

  same_levels : length clear_levels ≡ length levels
  same_levels = ap length cleared_levels ∙ length-replicate (length levels) 0

  same_scratch : length clear_scratch ≡ length scratch
  same_scratch = ap length cleared_scratch ∙ length-replicate (length scratch) 0

  same_lengths : suffice (length clear_table) (length clear_levels) (length clear_scratch) ≡ suffice (length table) (length levels) (length scratch)
  same_lengths = ap₂ (λ n m. suffice n m (length clear_scratch)) same_table same_levels ∙ ap (suffice (length table) (length levels)) same_scratch

  -- question 1 refuses
  pub promise_short : false ≡ suffice (length clear_table) (length clear_levels) (length clear_scratch)
      → Promise list table levels scratch (Refused ShortBuffers) clear_table clear_levels clear_scratch
  unfolding answer_to table_bytes level_bytes
  promise_short short =
      let refuses = planned_short list (length table) (length levels) (length scratch) (sym (short ∙ same_lengths)) in
      promised list table levels scratch (Refused ShortBuffers) clear_table clear_levels clear_scratch
      (sym (ap answer_to refuses))
      (cleared ∙ sym (ap (table_bytes (length table)) refuses))
      (cleared_levels ∙ sym (ap (level_bytes (length levels)) refuses))
      cleared_scratch

  -- the other questions are asked
  module _ (enough : true ≡ suffice (length clear_table) (length clear_levels) (length clear_scratch)) where
    pub cleared_long : LongEnough clear_table clear_levels clear_scratch
    cleared_long = (long_enough clear_table clear_levels clear_scratch).0 (subst T enough tt)

    pub promise_asked : {answer : Answer} {table' levels' scratch' : List ℕ} → Settled (outcome list) answer table' levels' → Zeros scratch'
        → length table' ≡ length clear_table → length levels' ≡ length clear_levels → length scratch' ≡ length clear_scratch
        → Promise list table levels scratch answer table' levels' scratch'
    unfolding Zeros
    promise_asked {answer} {table'} {levels'} {scratch'} settled clear table_kept levels_kept scratch_kept =
        let asked = sym (planned_long list (length table) (length levels) (length scratch) (sym (enough ∙ same_lengths))) in
        promised list table levels scratch answer table' levels' scratch'
        (settled.answered ∙ ap answer_to asked)
        (settled.table_is ∙ ap₂ table_bytes (table_kept ∙ same_table) asked)
        (settled.levels_are ∙ ap₂ level_bytes (levels_kept ∙ same_levels) asked)
        (clear ∙ ap zeros (scratch_kept ∙ same_scratch))
