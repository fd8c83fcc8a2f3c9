-- What is judged of one record: the laws that the functions of records/src/judge.rt rest on.
-- Assumes nothing.
use mathlib.Core.Path.{◌≡◌, refl, sym, ◌∙◌, ap}
use mathlib.Core.Logic.{◌↔◌}
use mathlib.Core.Bool.{Bool, true, false, ◌&&◌, and-false}
use mathlib.Core.List.{List, [], ◌∷◌, ◌++◌}
use Prim.Native.Nat.{ℕ, ◌+◌, ◌*◌, ◌-◌, ◌≤◌, ◌<◌}
use native.Mathlib.Omega.{arith}
use borrow.Author.Tests.{eq-eqb, ne_eqb}
use lib.Dec.{eqb}
use lib.IntN.{ℤ}
use lib.ListN.{length, get_or, take, drop, take-append-drop}
use lib.Seq.{drop_at, length-take-le}
use Rattle.counting.specs.Table.{columns}
use Rattle.words.specs.Words.{Reading, reading}
use Rattle.sheets.specs.Refusals.{numbered}
use Rattle.sheets.specs.Steps.{Outcome, filled, refused}
use Rattle.sheets.specs.declared.answer.Refusal.{Refusal}
use Rattle.sheets.specs.declared.answer.Refusal.TheVariants.{Unreadable}
use Rattle.sheets.specs.declared.answer.Answer.{Answer}
use Rattle.sheets.specs.declared.answer.Answer.TheVariants.{Filled, Refused}
use Rattle.layout.specs.Bytes.{runs_of, zeros, padded}
use Rattle.layout.proofs.Bytes.{runs_length}
use Rattle.promise.specs.Promise.{planned, answer_to, table_bytes, level_bytes, Promise}
use Rattle.report.specs.Report.{refusal_line, Printable, outcome_printed}
use Rattle.byte_texts.specs.Bytes.{first_place, same_bytes, all_zero}
use Rattle.record_texts.specs.Record.{lengths_in, lengths_given, lengths_read, came_to, answer_number, judged_as, judged, rest_zero}
use Rattle.record_texts.specs.declared.Judged.{Judged}
use Rattle.record_texts.specs.declared.Lengths.{Lengths}
use Rattle.byte_texts.proofs.Comparing.{first_most, same_iff, zeros_zero}

abbrev judged_by : ℕ → Bool → Judged
judged_by number same = record { number = number; same = same }

-- Lengths, three at a time.
pub lengths_three : (list : List ℕ) {a b c : ℕ} → a ≡ get_or list 0 0 * 65536 + get_or list 1 0 → b ≡ get_or list 2 0 * 65536 + get_or list 3 0
    → c ≡ get_or list 4 0 * 65536 + get_or list 5 0 → ◌≡◌ {A = Lengths} record { table = a; levels = b; scratch = c } (lengths_in list)
unfolding lengths_in
lengths_three list e f g = rw (e, f, g)

pub lengths_read_lem : (line : List ℕ) {r : Reading} {lengths : Lengths} → reading line ≡ r → lengths ≡ lengths_read r → lengths ≡ lengths_given line
unfolding lengths_given
lengths_read_lem line e f = f ∙ ap lengths_read (sym e)

-- The stored bytes: too few, not "=", not the end of the line, or the rest is compared.
pub stored_short : (stored printed : List ℕ) → length stored < 2 → false ≡ same_bytes stored (61 ∷ 10 ∷ printed)
unfolding same_bytes
stored_short [] printed h = refl
stored_short (b ∷ []) printed h = sym (and-false (eqb b 61))
stored_short (b ∷ c ∷ bs) printed h = absurd (omega arith)

stored_by : (stored printed : List ℕ) → 2 ≤ length stored
    → same_bytes stored (61 ∷ 10 ∷ printed) ≡ (eqb (get_or stored 0 0) 61 && (eqb (get_or stored 1 0) 10 && same_bytes (drop 2 stored) printed))
unfolding same_bytes
stored_by [] printed h = absurd (omega arith)
stored_by (b ∷ []) printed h = absurd (omega arith)
stored_by (b ∷ c ∷ bs) printed h = refl

module _ (stored printed : List ℕ) (long : 2 ≤ length stored) where
  pub stored_other : (get_or stored 0 0 ≡ 61 → ⊥) → false ≡ same_bytes stored (61 ∷ 10 ∷ printed)
  stored_other ne = sym (stored_by stored printed long ∙ rw (ne_eqb (get_or stored 0 0) 61 ne))

  module _ (equals : get_or stored 0 0 ≡ 61) where
    pub stored_on : (get_or stored 1 0 ≡ 10 → ⊥) → false ≡ same_bytes stored (61 ∷ 10 ∷ printed)
    stored_on ne = sym (stored_by stored printed long ∙ rw (eq-eqb (get_or stored 0 0) 61 equals, ne_eqb (get_or stored 1 0) 10 ne))

    pub stored_rest : {same : Bool} → get_or stored 1 0 ≡ 10 → same ≡ same_bytes (drop 2 stored) printed → same ≡ same_bytes stored (61 ∷ 10 ∷ printed)
    stored_rest line e = e ∙ sym (stored_by stored printed long ∙ rw (eq-eqb (get_or stored 0 0) 61 equals, eq-eqb (get_or stored 1 0) 10 line))

-- A record as a whole.
pub judged_whole : (bytes : List ℕ) (lengths : Lengths) {end : ℕ} {rest : List ℕ} {reads : Reading} {r : Judged} → end ≡ first_place 61 bytes
    → rest ≡ drop end bytes → reading (take end bytes) ≡ reads → r ≡ judged_as (came_to reads lengths) rest → r ≡ judged bytes lengths
unfolding judged
judged_whole bytes lengths e rest_is came r_is = r_is ∙ rw (rest_is, ← came, e)

rest_same : (bytes text : List ℕ) (at : ℕ) → at ≤ length bytes → (same_bytes (drop at bytes) text ≡ true) ↔ (bytes ≡ take at bytes ++ text)
rest_same bytes text at h = (
  λ e. sym (take-append-drop at bytes) ∙ ap (λ (l : List ℕ). take at bytes ++ l) ((same_iff (drop at bytes) text).0 e),
  λ e. (same_iff (drop at bytes) text).1 (ap (drop at) e ∙ drop_at (take at bytes) text at (length-take-le at bytes h)),
)

-- It is the same exactly where the record is its order, "=", the end of the line and what is printed.
pub record_same : (bytes : List ℕ) (lengths : Lengths) →
    let order = take (first_place 61 bytes) bytes in
    ((judged bytes lengths).same ≡ true) ↔ (bytes ≡ order ++ (61 ∷ 10 ∷ outcome_printed (came_to (reading order) lengths)))
unfolding judged judged_as
record_same bytes lengths = rest_same bytes _ (first_place 61 bytes) (first_most 61 bytes)

pub judged_unread : (place : ℕ) (stored : List ℕ) {printed : List ℕ} {same : Bool} → printed ≡ refusal_line (Unreadable place)
    → same ≡ same_bytes stored (61 ∷ 10 ∷ printed) → judged_by 2 same ≡ judged_as (refused (Unreadable place)) stored
unfolding judged_as answer_number answer_to numbered outcome_printed
judged_unread place stored e f = rw (f, e)

-- The number of an answer.
module _ {answer : Answer} where
  pub filled_number : {runs columns : ℕ} {spared : ℤ} → answer ≡ Filled runs columns spared → 0 ≡ answer_number answer
  unfolding answer_number
  filled_number e = rw e

  pub refused_number : {why : Refusal} (seven : List ℕ) → answer ≡ Refused why → seven ≡ numbered why → get_or seven 0 0 ≡ answer_number answer
  unfolding answer_number
  refused_number seven e f = rw (e, f)

  -- The bytes after it: their place is within the run table, and they are looked at from there on.
  module _ (levels table : List ℕ) where
    pub cells_within : {runs columns : ℕ} {spared : ℤ} → answer ≡ Filled runs columns spared → Printable answer levels table → runs * columns ≤ length table
    unfolding Printable
    cells_within e fits = (rw e at fits).cells_there

    pub filled_rest : {runs columns : ℕ} {spared : ℤ} {a b : Bool} → answer ≡ Filled runs columns spared → a ≡ all_zero (drop columns levels)
        → b ≡ all_zero (drop (runs * columns) table)
        → (a && b) ≡ rest_zero answer levels table
    unfolding rest_zero
    filled_rest e f g = rw (e, f, g)

    pub refused_rest : {why : Refusal} {a b : Bool} → answer ≡ Refused why → a ≡ all_zero levels → b ≡ all_zero table
        → (a && b) ≡ rest_zero answer levels table
    unfolding rest_zero
    refused_rest e f g = rw (e, f, g)

-- In buffers of other lengths that are the same.
pub judged_alike : (list stored : List ℕ) {n n' m m' k k' : ℕ} → n ≡ n' → m ≡ m' → k ≡ k' → {r : Judged} → r ≡ judged_as (planned list n m k) stored
    → r ≡ judged_as (planned list n' m' k') stored
judged_alike list stored e f g r_is = rw (e, f, g) at r_is

-- What `plan` promises: all bytes after those of the answer are zero, and what is judged is what the outcome prints.
module _ (n m : ℕ) where
  outcome_rest : (o : Outcome) → rest_zero (answer_to o) (level_bytes m o) (table_bytes n o) ≡ true
  unfolding rest_zero answer_to level_bytes table_bytes padded
  outcome_rest (filled S) =
      rw (
        drop_at S.levels (zeros (m - length S.levels)) (columns S) refl,
        drop_at (runs_of S) (zeros (n - length (runs_of S))) (S.runs * columns S) (runs_length S),
        zeros_zero (m - length S.levels),
        zeros_zero (n - length (runs_of S)),
      )
  outcome_rest (refused why) = rw (zeros_zero m, zeros_zero n)

module _ {list table levels scratch : List ℕ} {answer : Answer} {table' levels' scratch' : List ℕ}
    (promise : Promise list table levels scratch answer table' levels' scratch') where
  promise_rest : rest_zero answer levels' table' ≡ true
  promise_rest = rw (promise.answered, promise.table_is, promise.levels_are) (outcome_rest (length table) (length levels) _)

  promise_clear : all_zero scratch' ≡ true
  promise_clear = rw promise.scratch_is (zeros_zero (length scratch))

  pub promise_judged : (stored : List ℕ) {number : ℕ} {clear rest same : Bool} {printed : List ℕ} → number ≡ answer_number answer
      → clear ≡ all_zero scratch' → rest ≡ rest_zero answer levels' table'
      → printed ≡ outcome_printed (planned list (length table) (length levels) (length scratch))
      → same ≡ same_bytes stored (61 ∷ 10 ∷ printed)
      → judged_by number ((clear && rest) && same) ≡ judged_as (planned list (length table) (length levels) (length scratch)) stored
  unfolding judged_as
  promise_judged stored e f g h i = rw (e, f, g, i, h, promise_clear, promise_rest, promise.answered)
