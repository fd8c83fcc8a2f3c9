-- The sheet of a filled order is well-formed, so that it is never refused as a sheet handed in, and what is shown of it is what is shown of the order's outcome.
-- Assumes nothing.
use mathlib.Core.Path.{◌≡◌, sym, ◌∙◌, ap}
use mathlib.Core.List.{List}
use Prim.Native.Nat.{ℕ, ◌≤◌, ◌<◌}
use lib.IntN.{ℤ}
use lib.ListN.{length, get_or}
use Rattle.buffers.specs.Put.{Put}
use Rattle.counting.specs.Table.{Table, columns, levels_of}
use Rattle.pieces.proofs.Padded.{padded_at}
use Rattle.step_tables.specs.Sheet.{AllLevels, Sound, SmallEnough, Agree}
use Rattle.sheets.specs.Steps.{Outcome, filled, refused}
use Rattle.sheets.specs.Outcome.{outcome}
use Rattle.sheets.specs.declared.answer.Refusal.{Refusal}
use Rattle.sheets.specs.declared.answer.Answer.{Answer}
use Rattle.sheets.specs.declared.answer.Answer.TheVariants.{Filled, Refused}
use Rattle.sheets.proofs.Filled.{filled_sound}
use Rattle.report.specs.Report.{refusal_line, outcome_by}
use Rattle.given_sheet.specs.Given.{WellFormed, given_sheet}
use Rattle.layout.specs.Bytes.{Holds, sheet_in}
use Rattle.layout.specs.declared.Size.{Size}
use Rattle.layout.proofs.Sheets.{holds_agrees}
use Rattle.promise.specs.Promise.{suffice, planned, answer_to, table_bytes, level_bytes, Promise}
use Rattle.promise.proofs.Promises.{long_enough, refused_unfilled, filled_answer, asked_first, padded_holds}

-- a refused answer is an outcome's
refused_answer : (o : Outcome) {why : Refusal} → answer_to o ≡ Refused why → o ≡ refused why
unfolding answer_to
refused_answer (filled S) e = absurd (refused_unfilled (sym e))
refused_answer (refused why) e = cc

module _ {list table levels scratch : List ℕ} {answer : Answer} {table' levels' scratch' : List ℕ}
    (promise : Promise list table levels scratch answer table' levels' scratch') where
  -- the sheet that a filled answer is about
  record SheetOf (N m : ℕ) : Type 0 where
    sheet : Table
    planned_is : planned list (length table) (length levels) (length scratch) ≡ filled sheet
    runs_are : sheet.runs ≡ N
    columns_are : columns sheet ≡ m
    sound : Sound sheet
    small : SmallEnough sheet
    holds : Holds sheet table' levels'

  module _ {N m : ℕ} {spared : ℤ} (is : answer ≡ Filled N m spared) where
    sheet_of : SheetOf N m
    unfolding planned table_bytes level_bytes
    sheet_of =
        let (S, filled_by, runs, many, kept) = filled_answer (planned list (length table) (length levels) (length scratch)) (sym promise.answered ∙ is) in
        let (suffices, come) = asked_first (suffice (length table) (length levels) (length scratch)) (outcome list) filled_by in
        let (sound, small) = filled_sound list come in
        let long = (long_enough table levels scratch).0 suffices in
        record {
          sheet = S;
          planned_is = filled_by;
          runs_are = runs;
          columns_are = many;
          sound = sound;
          small = small;
          holds =
              padded_holds S (length table) (length levels) table' levels' small long.table_long long.levels_long
              (promise.table_is ∙ ap (table_bytes (length table)) filled_by)
              (promise.levels_are ∙ ap (level_bytes (length levels)) filled_by);
        }

    -- it is well-formed in its buffers
    pub filled_well_formed : WellFormed N m levels' table'
    unfolding AllLevels
    filled_well_formed =
        let of = sheet_of in
        let S = of.sheet in
        let even = promise.even N m spared is in
        let count : (c : ℕ) → c < m → get_or levels' c 0 ≡ levels_of S c =
        λ c h. ap (λ (xs : List ℕ). get_or xs c 0) of.holds.levels_first ∙ padded_at (length levels') S.levels c in
        let within : (c : ℕ) → c < m → (2 ≤ levels_of S c) × (levels_of S c ≤ 64) = λ c h. of.sound.levels_within c (rw of.columns_are h) in
        record {
          runs_some = even.runs_some;
          runs_most = rw (← of.runs_are) of.small.runs_most;
          columns_some = even.columns_some;
          columns_most = rw (← of.columns_are) of.small.columns_most;
          counts_there = even.counts_there;
          entries_there = even.entries_there;
          counts_least = λ c h. rw (count c h) (within c h).0;
          counts_most = λ c h. rw (count c h) (within c h).1;
          in_range = even.in_range;
        }

    -- and looks the same as that of the outcome
    filled_alike : let of = sheet_of in Agree of.sheet (given_sheet N m levels' table')
    unfolding given_sheet sheet_in
    filled_alike =
        let of = sheet_of in
        let size : Size = record { runs = N; columns = m; spare = spared } in
        holds_agrees of.sheet table' levels' size of.holds (sym of.runs_are) (sym of.columns_are) (promise.even N m spared is).counts_there

  -- so what is put of the answer is what is shown of the outcome, where tables that look the same are shown alike
  module _ (shown : Table → List ℕ) {before after : List ℕ} {at end : ℕ} where
    pub filled_put : ((A B : Table) → Agree A B → shown A ≡ shown B) → {N m : ℕ} {spared : ℤ} → answer ≡ Filled N m spared
        → Put before at (shown (given_sheet N m levels' table')) after end
        → Put before at (outcome_by shown (planned list (length table) (length levels) (length scratch))) after end
    filled_put alike is put = rw ((sheet_of is).planned_is, alike _ _ (filled_alike is)) put

    pub refused_put : {why : Refusal} → answer ≡ Refused why → Put before at (refusal_line why) after end
        → Put before at (outcome_by shown (planned list (length table) (length levels) (length scratch))) after end
    refused_put is put = rw (refused_answer (planned list (length table) (length levels) (length scratch)) (sym promise.answered ∙ is)) put
