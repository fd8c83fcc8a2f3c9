-- Pieces that are scanned one after the other, and what they come to: the definition's reading of the whole text.
-- Assumes nothing.
use mathlib.Core.Path.{◌≡◌, refl, sym, ◌∙◌, ap, ap₂}
use mathlib.Core.List.{List, [], ◌∷◌, ◌++◌, append-nil, append_assoc, foldl, foldl-append, flatten}
use Prim.Native.Nat.{ℕ}
use native.Mathlib.Omega.{arith}
use lib.ListN.{length}
use Rattle.std.specs.declared.ops.ControlFlow.TheVariants.{Continue, Break}
use Rattle.words.specs.Words.{refused, reading}
use Rattle.words.specs.Scanner.{Scanned, Progress, advanced, finished, scanned_reading, Unfinished}
use Rattle.words.specs.declared.Scan.{Scan}
use Rattle.words.specs.declared.Scan.TheVariants.{Between, Inside, Failed}
use Rattle.words.proofs.Following.{refused_stays}
use Rattle.words.proofs.Scanning.{any_cut}
use Rattle.words.proofs.Bounds.{sound_start, sound_piece, sound_finish, refused_failed}
use Rattle.input.specs.Input.{Next, onward, after_read, ScannedInput}

-- Some pieces of a text were scanned from its start, and no word of it is refused so far.
pub record ScannedPart (before : List ℕ) (state : Scan) (list : List ℕ) : Type 0 where
  pub sound : Unfinished (length before) state list
  pub going : (place : ℕ) → state ≡ Failed place → ⊥
  pub pieces : List (List ℕ)
  pub reached : (state, list) ≡ foldl advanced (Between 0, before) pieces

between_failed : {state : Scan} {count place : ℕ} → state ≡ Between count → state ≡ Failed place → ⊥
between_failed e f = cc

pub underway_start : {state : Scan} (list : List ℕ) → state ≡ Between 0 → ScannedPart list state list
underway_start list e =
    record {
      sound = sound_start list e;
      going = λ place f. between_failed e f;
      pieces = [];
      reached = ap (λ (s : Scan). (s, list)) e;
    }

-- What comes after a read: the scanner goes on from where it stands, and has not failed; or the text is finished.
read_answer : {state : Scan} {answer : Scanned} → Continue state ≡ Break answer → ⊥
read_answer e = cc

answer_same : {a b : Scanned} → ◌≡◌ {A = Next} (Break a) (Break b) → a ≡ b
answer_same e = cc

onward_read : (s : Scan) {next : Scan} → Continue next ≡ onward s → (next ≡ s) × ((place : ℕ) → next ≡ Failed place → ⊥)
onward_read (Between count) e = (cc, λ place f. (cc))
onward_read (Inside count value) e = (cc, λ place f. (cc))
onward_read (Failed place) e = absurd (read_answer e)

onward_answer : (s : Scan) (list : List ℕ) {answer : Scanned} → Break answer ≡ onward s → (answer, list) ≡ finished (s, list)
unfolding finished
onward_answer (Between count) list e = absurd (read_answer (sym e))
onward_answer (Inside count value) list e = absurd (read_answer (sym e))
onward_answer (Failed place) list e = ap (λ (r : Scanned). (r, list)) (answer_same e)

module _ (p : Progress) {list : List ℕ} where
  read_on : (bytes : List ℕ) {next : Scan} → (Continue next, list) ≡ after_read p bytes
      → ((next, list) ≡ advanced p bytes) × ((place : ℕ) → next ≡ Failed place → ⊥)
  unfolding after_read
  read_on [] e = absurd (read_answer (ap (λ q. q.0) e))
  read_on (b ∷ bs) e =
      let told = onward_read (advanced p (b ∷ bs)).0 (ap (λ q. q.0) e) in
      (ap₂ (λ (s : Scan) (l : List ℕ). (s, l)) told.0 (ap (λ q. q.1) e), told.1)

  read_ends : (bytes : List ℕ) {answer : Scanned} → (Break answer, list) ≡ after_read p bytes → (answer, list) ≡ finished (advanced p bytes)
  unfolding after_read advanced
  read_ends [] e = ap₂ (λ (r : Scanned) (l : List ℕ). (r, l)) (answer_same (ap (λ q. q.0) e)) (ap (λ q. q.1) e)
  read_ends (b ∷ bs) {answer} e =
      ap (λ (l : List ℕ). (answer, l)) (ap (λ q. q.1) e)
      ∙ onward_answer (advanced p (b ∷ bs)).0 (advanced p (b ∷ bs)).1 (ap (λ q. q.0) e)

-- The two cases of a read, as the code goes through them.
module _ (p : Progress) {list : List ℕ} where
  pub read_none : (bytes : List ℕ) {answer : Scanned} → length bytes ≡ 0 → (answer, list) ≡ finished p → (Break answer, list) ≡ after_read p bytes
  unfolding after_read
  read_none [] h e = ap (λ (r : Scanned × List ℕ). (Break r.0, r.1)) e
  read_none (b ∷ bs) h e = absurd (omega arith)

  pub read_some : (bytes : List ℕ) {state : Scan} {next : Next} → (length bytes ≡ 0 → ⊥) → (state, list) ≡ advanced p bytes → onward state ≡ next
      → (next, list) ≡ after_read p bytes
  unfolding after_read
  read_some [] h e o = absurd (h refl)
  read_some (b ∷ bs) h e o = ap (λ (n : Next). (n, list)) (sym o) ∙ ap (λ (q : Progress). (onward q.0, q.1)) e

flatten_last : (pieces : List (List ℕ)) (last : List ℕ) → flatten (pieces ++ (last ∷ [])) ≡ flatten pieces ++ last
unfolding flatten
flatten_last [] last = append-nil last
flatten_last (piece ∷ pieces) last = ap (λ (l : List ℕ). piece ++ l) (flatten_last pieces last) ∙ sym (append_assoc piece (flatten pieces) last)

module _ {before : List ℕ} {state : Scan} {list : List ℕ} (so_far : ScannedPart before state list) where
  further : (bytes : List ℕ) → advanced (state, list) bytes ≡ foldl advanced (Between 0, before) (so_far.pieces ++ (bytes ∷ []))
  further bytes =
      ap (λ (p : Progress). advanced p bytes) so_far.reached
      ∙ sym (foldl-append advanced (Between 0, before) so_far.pieces (bytes ∷ []))

  pub underway_read : (bytes : List ℕ) {next : Scan} {list' : List ℕ} → (Continue next, list') ≡ after_read (state, list) bytes → ScannedPart before next list'
  underway_read bytes e =
      let told = read_on (state, list) bytes e in
      record {
        sound = sound_piece so_far.sound bytes told.0;
        going = told.1;
        pieces = so_far.pieces ++ (bytes ∷ []);
        reached = told.0 ∙ further bytes;
      }

  module _ (places : length before ≡ 32768) where
    none_refused : (place : ℕ) → reading (flatten so_far.pieces) ≡ refused place → ⊥
    none_refused place e =
        let whole = ap (λ (p : Progress). scanned_reading (finished p)) so_far.reached ∙ any_cut before places so_far.pieces in
        so_far.going place (refused_failed state list so_far.sound (whole ∙ e))

    -- The text is finished after some bytes more.
    finished_input : (bytes : List ℕ) {answer : Scanned} {list' : List ℕ} → (answer, list') ≡ finished (advanced (state, list) bytes) → ScannedInput answer list'
    finished_input bytes {answer} {list'} e =
        let reads : scanned_reading (answer, list') ≡ reading (flatten so_far.pieces ++ bytes) =
        ap scanned_reading e
        ∙ ap (λ (p : Progress). scanned_reading (finished p)) (further bytes)
        ∙ any_cut before places (so_far.pieces ++ (bytes ∷ []))
        ∙ ap reading (flatten_last so_far.pieces bytes) in
        record {
          ended = rw places at (sound_finish (sound_piece so_far.sound bytes refl) e);
          input = record { earlier = so_far.pieces; last = bytes; called_for = none_refused };
          reads = reads;
          suffices = λ place is rest. refused_stays _ rest (sym reads ∙ ap (λ (r : Scanned). scanned_reading (r, list')) is);
        }

    pub input_answered : (bytes : List ℕ) {answer : Scanned} {list' : List ℕ} → (Break answer, list') ≡ after_read (state, list) bytes → ScannedInput answer list'
    input_answered bytes e = finished_input bytes (read_ends (state, list) bytes e)

    pub input_finished : {answer : Scanned} {list' : List ℕ} → (answer, list') ≡ finished (state, list) → ScannedInput answer list'
    unfolding advanced
    input_finished e = finished_input [] e
