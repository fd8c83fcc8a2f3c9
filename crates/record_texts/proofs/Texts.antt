-- A text of records, one byte at a time: each case of the definitions of specs/Text.antt.
-- Assumes nothing.
use mathlib.Core.Path.{◌≡◌, refl, sym, ◌∙◌, ap}
use mathlib.Core.Bool.{Bool, true, false, cond, ◌&&◌}
use mathlib.Core.List.{List, [], ◌∷◌, ◌++◌, foldl-append, flatten, append-nil, append_assoc}
use Prim.Native.Nat.{ℕ, ◌+◌, ◌≤◌, ◌<◌}
use native.Mathlib.Numerals.{add-one}
use native.Mathlib.Omega.{arith}
use borrow.Author.Tests.{eq-eqb, ne_eqb}
use lib.Dec.{eqb, ltb}
use lib.ListN.{length, get_or, take, drop, set, length-append, drop_of_length-le}
use lib.Seq.{length-take-le, take_all, take_at, take-suc-set, drop-cons}
use Rattle.lines.proofs.Cases.{by_cases}
use Rattle.record_counts.specs.Counts.{record_counted, answer_counted}
use Rattle.record_counts.specs.declared.Tally.{Tally}
use Rattle.record_counts.proofs.Counts.{few_counted}
use Rattle.record_texts.specs.Record.{lengths_given, judged}
use Rattle.record_texts.specs.Text.{Comparison, is_line, ends_item, after_record, after_lengths, after_nothing, after_item_of, after_item, after_byte, after_text, start, compared, Compared}
use Rattle.record_texts.specs.State.{progress, progress_of}
use Rattle.record_texts.specs.declared.State.{State}
use Rattle.record_texts.specs.declared.Judged.{Judged}
use Rattle.record_texts.specs.declared.Lengths.{Lengths}

-- The byte that ends an item.
module _ (byte : ℕ) where
  pub ends_empty : (item : List ℕ) → length item ≡ 0 → eqb byte 10 ≡ ends_item item byte
  unfolding ends_item
  ends_empty [] e = refl
  ends_empty (b ∷ bs) e = absurd (omega arith)

  pub ends_by : (item : List ℕ) → (length item ≡ 0 → ⊥) → {line : Bool} → is_line (get_or item 0 0) ≡ line
      → cond line (eqb byte 10) (eqb byte 59) ≡ ends_item item byte
  unfolding ends_item
  ends_by [] ne e = absurd (ne refl)
  ends_by (b ∷ bs) ne e = rw (← e)

-- An item at its end, as the function that compares it leaves the state and the counts.
module _ (room : ℕ) (tally : Tally) (lengths : Lengths) (item answers : List ℕ) where
  pub record_counted_lem : {found : Judged} {answers' : List ℕ} {holds : Bool} {tally' : Tally}
      → found ≡ judged item lengths
      → answers' ≡ answer_counted found.number answers
      → holds ≡ (ltb (length item) room && found.same)
      → tally' ≡ record_counted holds tally
      → progress tally' lengths [] answers' ≡ after_record room (progress tally lengths item answers)
  unfolding after_record
  record_counted_lem e counted holds_is tally_is = rw (tally_is, counted, holds_is, e)

  abbrev before_it : Comparison
  before_it = progress tally lengths item answers

  by_empty : (bytes : List ℕ) → length bytes ≤ 0 → after_nothing before_it ≡ after_item_of room bytes before_it
  by_empty [] h = refl
  by_empty (b ∷ bs) h = absurd (omega arith)

  by_first : (bytes : List ℕ) → 0 < length bytes
      → cond (eqb (get_or bytes 0 0) 64) (after_lengths (drop 1 bytes) before_it)
      (cond (eqb (get_or bytes 0 0) 35) (after_nothing before_it) (after_record room before_it))
      ≡ after_item_of room bytes before_it
  by_first [] h = absurd (omega arith)
  by_first (b ∷ bs) h = refl

  pub item_empty : length item ≤ 0 → progress tally lengths [] answers ≡ after_item room before_it
  unfolding after_item
  item_empty h = by_empty item h

  module _ (some : 0 < length item) where
    pub item_lengths : {lengths' : Lengths} → get_or item 0 0 ≡ 64 → lengths' ≡ lengths_given (drop 1 item)
        → progress tally lengths' [] answers ≡ after_item room before_it
    unfolding after_item
    item_lengths e given = ap (λ (l : Lengths). progress tally l [] answers) given ∙ (rw (eq-eqb _ 64 e) at (by_first item some))

    pub item_remark : (get_or item 0 0 ≡ 64 → ⊥) → get_or item 0 0 ≡ 35 → progress tally lengths [] answers ≡ after_item room before_it
    unfolding after_item
    item_remark ne e = rw (ne_eqb _ 64 ne, eq-eqb _ 35 e) at (by_first item some)

    pub item_record : {tally' : Tally} {answers' : List ℕ} → (get_or item 0 0 ≡ 64 → ⊥) → (get_or item 0 0 ≡ 35 → ⊥)
        → progress tally' lengths [] answers' ≡ after_record room before_it → progress tally' lengths [] answers' ≡ after_item room before_it
    unfolding after_item
    item_record ne ne' counted = counted ∙ (rw (ne_eqb _ 64 ne, ne_eqb _ 35 ne') at (by_first item some))

-- The buffer for an item, of which so many bytes are held: one more, or none where it is full.
module _ (item : List ℕ) (held byte : ℕ) where
  held_next : held < length item → take (held + 1) (set item held byte) ≡ take (length item) (take held item ++ (byte ∷ []))
  held_next h =
      rw (add-one held, take-suc-set item held byte h)
      (sym (take_all (length item) _ (omega (arith, length-append (take held item) (byte ∷ []), length-take-le held item (omega arith)))))

  held_full : held ≡ length item → take held item ≡ take (length item) (take held item ++ (byte ∷ []))
  held_full e = sym (take_at (take held item) (byte ∷ []) (length item) (length-take-le held item (omega arith) ∙ e))

-- A byte: it ends the item, of which then nothing is held, or is held too if the buffer is not full.
module _ (item answers : List ℕ) (before : State) (byte : ℕ) where
  pub byte_ends : {after : State} {answers' : List ℕ} → ends_item (take before.held item) byte ≡ true → after.held ≡ 0
      → progress after.tally after.lengths [] answers' ≡ after_item (length item) (progress_of before item answers)
      → progress_of after item answers' ≡ after_byte (length item) (progress_of before item answers) byte
  unfolding after_byte
  byte_ends {after} {answers'} ends none counted =
      ap (λ (n : ℕ). progress after.tally after.lengths (take n item) answers') none ∙ counted ∙ rw ends

  module _ (goes_on : ends_item (take before.held item) byte ≡ false) where
    pub byte_held : before.held < length item
        → progress before.tally before.lengths (take (before.held + 1) (set item before.held byte)) answers
        ≡ after_byte (length item) (progress_of before item answers) byte
    unfolding after_byte
    byte_held h = ap (λ (l : List ℕ). progress before.tally before.lengths l answers) (held_next item before.held byte h) ∙ rw goes_on

    pub byte_cut : before.held ≡ length item → progress_of before item answers ≡ after_byte (length item) (progress_of before item answers) byte
    unfolding after_byte
    byte_cut full = ap (λ (l : List ℕ). progress before.tally before.lengths l answers) (held_full item before.held byte full) ∙ rw goes_on

-- Some bytes.
module _ (room : ℕ) (p : Comparison) (bytes : List ℕ) (i : ℕ) where
  pub text_next : {q : Comparison} {room' : ℕ} → room' ≡ room → i < length bytes → q ≡ after_byte room' p (get_or bytes i 0)
      → after_text room p (drop i bytes) ≡ after_text room q (drop (i + 1) bytes)
  unfolding after_text
  text_next r h e = rw (e, r, add-one, drop-cons bytes i 0)

  pub text_end : length bytes ≤ i → after_text room p (drop i bytes) ≡ p
  unfolding after_text
  text_end h = rw (drop_of_length-le bytes h)

-- No more records differ than there are.
abbrev Few : Comparison → Type 0
Few p = p.tally.differing ≤ p.tally.records

few_item : (room : ℕ) (item : List ℕ) (p : Comparison) → Few p → Few (after_item_of room item p)
unfolding after_record
few_item room [] p h = h
few_item room (b ∷ bs) p h =
    by_cases (eqb b 64) (λ t. rw t h)
    (λ t. rw t (by_cases (eqb b 35) (λ u. rw u h) (λ u. rw u (few_counted (ltb (length p.item) room && (judged p.item p.lengths).same) p.tally h))))

few_byte : (room : ℕ) (p : Comparison) (byte : ℕ) → Few p → Few (after_byte room p byte)
unfolding after_byte after_item
few_byte room p byte h = by_cases (ends_item p.item byte) (λ t. rw t (few_item room p.item p h)) (λ t. rw t h)

few_text : (room : ℕ) (bytes : List ℕ) (p : Comparison) → Few p → Few (after_text room p bytes)
unfolding after_text
few_text room [] p h = h
few_text room (b ∷ bs) p h = few_text room bs (after_byte room p b) (few_byte room p b h)

pub few_differ : {tally : Tally} → Compared tally → tally.differing ≤ tally.records
unfolding compared
few_differ c = rw c.tally_is (few_text 262144 (flatten c.pieces) start (omega arith))

-- Pieces that were compared one after the other.
pub record Underway (p : Comparison) : Type 0 where
  pub pieces : List (List ℕ)
  pub reached : p ≡ compared (flatten pieces)

pub underway_start : Underway start
unfolding compared after_text flatten
underway_start = record { pieces = []; reached = refl }

flatten_snoc : (pieces : List (List ℕ)) (bytes : List ℕ) → flatten (pieces ++ (bytes ∷ [])) ≡ flatten pieces ++ bytes
unfolding flatten
flatten_snoc [] bytes = append-nil bytes
flatten_snoc (piece ∷ pieces) bytes = ap (λ (l : List ℕ). piece ++ l) (flatten_snoc pieces bytes) ∙ sym (append_assoc piece (flatten pieces) bytes)

pub underway_piece : {p q : Comparison} {room : ℕ} → Underway p → (bytes : List ℕ) → room ≡ 262144 → q ≡ after_text room p bytes → Underway q
unfolding compared after_text
underway_piece {p} so_far bytes r e =
    record {
      pieces = so_far.pieces ++ (bytes ∷ []);
      reached =
          e
          ∙ ap (λ (n : ℕ). after_text n p bytes) r
          ∙ ap (λ (s : Comparison). after_text 262144 s bytes) so_far.reached
          ∙ sym (foldl-append (after_byte 262144) start (flatten so_far.pieces) bytes)
          ∙ ap compared (sym (flatten_snoc so_far.pieces bytes));
    }

pub underway_tally : {p : Comparison} → Underway p → Compared p.tally
underway_tally so_far = record { pieces = so_far.pieces; tally_is = ap (λ (p : Comparison). p.tally) so_far.reached }
