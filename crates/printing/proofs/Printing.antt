-- What `plan` promises can be printed, and what is printed of its answer is what is printed of the order's outcome.
-- Assumes nothing.
use mathlib.Core.Path.{◌≡◌, refl, ◌∙◌, ap}
use mathlib.Core.Bool.{Bool, true, false, cond}
use mathlib.Core.List.{List}
use Prim.Native.Nat.{ℕ, ◌*◌, ◌-◌, ◌≤◌}
use native.Mathlib.Nat.{le_trans}
use native.Mathlib.Omega.{arith}
use lib.ListN.{length}
use Rattle.counting.specs.Table.{Table, columns}
use Rattle.step_tables.specs.Sheet.{SmallEnough}
use Rattle.spare.specs.Spare.{spare}
use Rattle.sheets.specs.Steps.{Outcome, filled, refused}
use Rattle.sheets.specs.Outcome.{outcome}
use Rattle.sheets.specs.declared.answer.Refusal.TheVariants.{ShortBuffers}
use Rattle.sheets.specs.declared.answer.Answer.{Answer}
use Rattle.sheets.proofs.Carried.{refused_not_filled}
use Rattle.sheets.proofs.Filled.{filled_sound}
use Rattle.layout.specs.Bytes.{run_of, runs_of, zeros, padded}
use Rattle.promise.specs.Promise.{suffice, planned, answer_to, table_bytes, level_bytes, Promise}
use Rattle.layout.proofs.Bytes.{runs_length}
use Rattle.layout.proofs.Sheets.{padded_length, cells_few}
use Rattle.buffers.specs.Put.{Put}
use Rattle.report.specs.Report.{answer_printed, TableInBuffers, Printable, outcome_printed}
use Rattle.report.proofs.Padded.{filled_printed}

-- a table in buffers of n and m bytes
module _ (S : Table) (n m : ℕ) (small : SmallEnough S) (table_long : 65536 ≤ n) (levels_long : 128 ≤ m) where
  fits_padded : TableInBuffers S.runs (columns S) (padded m S.levels) (padded n (runs_of S))
  fits_padded =
      let few : S.runs * columns S ≤ n = le_trans (cells_few small.runs_most small.columns_most) table_long in
      let narrow : columns S ≤ m = le_trans small.columns_most levels_long in
      record {
        few = small.runs_most;
        narrow = small.columns_most;
        levels_there = omega (arith, padded_length m S.levels narrow);
        cells_there = omega (arith, runs_length S, padded_length n (runs_of S) (rw (runs_length S) few));
      }

-- an outcome in buffers of n and m bytes, of which a filled one is a table within the limits
module _ (n m : ℕ) where
  abbrev Within : Outcome → Type 0
  Within (filled S) = SmallEnough S × (65536 ≤ n) × (128 ≤ m)
  Within (refused why) = Unit {0}

  outcome_printable : (o : Outcome) → Within o → Printable (answer_to o) (level_bytes m o) (table_bytes n o)
  unfolding answer_to level_bytes table_bytes Printable
  outcome_printable (filled S) (small, table_long, levels_long) = fits_padded S n m small table_long levels_long
  outcome_printable (refused why) w = tt

  outcome_put : (o : Outcome) → answer_printed (answer_to o) (level_bytes m o) (table_bytes n o) ≡ outcome_printed o
  unfolding answer_to level_bytes table_bytes padded answer_printed outcome_printed runs_of run_of
  outcome_put (filled S) =
      filled_printed S.runs (spare S) S.levels (runs_of S) (zeros (m - columns S)) (zeros (n - length (runs_of S))) (runs_length S)
  outcome_put (refused why) = refl

-- a filled outcome passed question 1
passed : (b : Bool) (o : Outcome) {S : Table} → cond b o (refused ShortBuffers) ≡ filled S → o ≡ filled S
passed true o e = e
passed false o e = absurd (refused_not_filled e)

module _ {list table levels scratch : List ℕ} {answer : Answer} {table' levels' scratch' : List ℕ}
    (promise : Promise list table levels scratch answer table' levels' scratch') where
  planned_within : (o : Outcome) → planned list (length table) (length levels) (length scratch) ≡ o → Within (length table) (length levels) o
  unfolding planned answer_to
  planned_within (filled S) e =
      let long = (promise.filled_when.0 (S.runs, columns S, spare S, promise.answered ∙ ap answer_to e)).0 in
      ((filled_sound list (passed (suffice (length table) (length levels) (length scratch)) (outcome list) e)).1, long.table_long, long.levels_long)
  planned_within (refused why) e = tt

  pub promise_printable : Printable answer levels' table'
  promise_printable =
      rw (promise.answered, promise.table_is, promise.levels_are) (outcome_printable (length table) (length levels) _ (planned_within _ refl))

  promise_printed : answer_printed answer levels' table' ≡ outcome_printed (planned list (length table) (length levels) (length scratch))
  promise_printed =
      rw (promise.answered, promise.table_is, promise.levels_are)
      (outcome_put (length table) (length levels) (planned list (length table) (length levels) (length scratch)))

  -- so what is put of the answer is what is printed of the outcome
  pub promise_put : {before after : List ℕ} {at end : ℕ} → Put before at (answer_printed answer levels' table') after end
      → Put before at (outcome_printed (planned list (length table) (length levels) (length scratch))) after end
  promise_put p = rw promise_printed at p
