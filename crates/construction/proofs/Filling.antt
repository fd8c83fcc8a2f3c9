-- Questions 2 to 4 on the list, and the outcome that each leaves.
-- Assumes nothing.
use mathlib.Core.Path.{◌≡◌, refl, sym, ◌∙◌, ap}
use mathlib.Core.List.{List}
use mathlib.Core.Option.{Option, none, some}
use Prim.Native.Nat.{ℕ}
use native.Mathlib.Omega.{arith}
use Rattle.std.specs.Prelude.{Ok, Err}
use Rattle.order.specs.Order.{Order}
use Rattle.order.specs.Reader.{Parsed, value, refused as unread}
use Rattle.order.specs.Grammar.{read_order, Reads}
use Rattle.order.specs.Answers.{reading_of}
use Rattle.order.specs.declared.Refused.{Refused}
use Rattle.order.specs.Range.{range_of}
use Rattle.order.specs.declared.RangeFault.TheVariants.{OutOfRange, Unread}
use Rattle.order.proofs.Answers.{refusal_same, apart}
use Rattle.order.proofs.OrderLaw.{reads_iff}
use Rattle.order.proofs.InRange.{range_iff}
use Rattle.sheets.specs.Steps.{Outcome, refused, all_steps}
use Rattle.sheets.specs.Outcome.{range_refusal, ingredients_refusal, unless, read_outcome, outcome}
use Rattle.sheets.specs.declared.answer.Refusal.{Refusal}
use Rattle.sheets.specs.declared.answer.Refusal.TheVariants.{Unreadable, EntryOutOfRange}
use Rattle.sheets.proofs.OrderQuestions.{reads_whole, ingredients_decide}
use Rattle.sheets.proofs.Filled.{outcome_read, asked}
use Rattle.question_4.specs.Passing.{passing_of, passing_in}
use Rattle.layout.specs.Step.{Readable}
use Rattle.layout.proofs.Operands.{in_order_lem}
use Rattle.sheet_in_hand.specs.Carrying.{Passing, all_in}
use Rattle.construction.specs.Filling.{passed_in}

-- ---- question 2

unread_outcome : (r : Parsed Order) {refusal : Refused} → reading_of r ≡ Err refusal → read_outcome r ≡ refused (Unreadable refusal.place)
unfolding read_outcome reading_of
unread_outcome (value o end) e = apart e
unread_outcome (unread at) e = ap (λ r. refused (Unreadable r.place)) (refusal_same e)

pub unreadable : (list : List ℕ) {refusal : Refused} → reading_of (read_order list) ≡ Err refusal → outcome list ≡ refused (Unreadable refusal.place)
unfolding outcome
unreadable list e = unread_outcome (read_order list) e

read_order_lem : (r : Parsed Order) → reading_of r ≡ Ok tt → (o : Order) × (end : ℕ) × (r ≡ value o end)
unfolding reading_of
read_order_lem (value o end) e = (o, end, refl)
read_order_lem (unread place) e = apart (sym e)

pub reads : (list : List ℕ) → reading_of (read_order list) ≡ Ok tt → (o : Order) × Reads list o
reads list e =
    let (o, end, is) = read_order_lem (read_order list) e in
    (o, is ∙ ap (value o) (reads_whole list o end is))

-- ---- question 3, of a list that reads

module _ (list : List ℕ) (read : (o : Order) × Reads list o) where
  after_range : Outcome
  after_range = unless (ingredients_refusal 1 read.0.ingredients) (all_steps read.0 read.0.steps)

  asked_range : outcome list ≡ unless (range_refusal (range_of (read_order list))) after_range
  unfolding after_range
  asked_range = outcome_read list read.0 read.1

  pub out_of_range : (place : ℕ) → range_of (read_order list) ≡ Err (OutOfRange place) → outcome list ≡ refused (EntryOutOfRange place)
  unfolding range_refusal unless
  out_of_range place e = asked_range ∙ ap (λ r. unless (range_refusal r) after_range) e

  pub not_unread : range_of (read_order list) ≡ Err Unread → ⊥
  not_unread e = asked list read.0 read.1 e

  pub readable : range_of (read_order list) ≡ Ok tt → Readable list
  readable e = record { order = read.0; reads = read.1; in_range = (range_iff list read.0 read.1).0 e }

  pub in_range_outcome : (e : range_of (read_order list) ≡ Ok tt) → outcome list ≡ passed_in list
  unfolding range_refusal unless passed_in after_range readable
  in_range_outcome e = asked_range ∙ ap (λ r. unless (range_refusal r) after_range) e ∙ sym (in_order_lem (readable e) _)

-- ---- question 4

passing_none : (x : Option Refusal) → passing_of x ≡ Ok tt → x ≡ none
unfolding passing_of
passing_none none e = refl
passing_none (some why) e = cc

passing_some : (x : Option Refusal) (why : Refusal) → passing_of x ≡ Err why → x ≡ some why
unfolding passing_of
passing_some none why e = cc
passing_some (some other) why e = let same : other ≡ why = cc in ap some same

module _ {list : List ℕ} (read : Readable list) where
  found : passing_in (read_order list) ≡ passing_of (ingredients_refusal 1 read.order.ingredients)
  unfolding passing_in
  found = rw read.reads

  pub still_in_range : range_of (read_order list) ≡ Ok tt
  still_in_range = (range_iff list read.order read.reads).1 read.in_range

  pub all_pass : passing_in (read_order list) ≡ Ok tt → Passing list
  all_pass e =
      record {
        readable = read;
        passing =
            (ingredients_decide 1 read.order.ingredients ((reads_iff list read.order).0 read.reads).1.each_ingredient).0
            (passing_none _ (sym found ∙ e));
      }

  pub passed_all : passing_in (read_order list) ≡ Ok tt → passed_in list ≡ all_in list
  unfolding passed_in all_in unless
  passed_all e =
      in_order_lem read _
      ∙ ap (λ x. unless x (all_steps read.order read.order.steps)) (passing_none _ (sym found ∙ e))
      ∙ sym (in_order_lem read _)

  pub passed_refused : (why : Refusal) → passing_in (read_order list) ≡ Err why → passed_in list ≡ refused why
  unfolding passed_in unless
  passed_refused why e =
      in_order_lem read _ ∙ ap (λ x. unless x (all_steps read.order read.order.steps)) (passing_some _ why (sym found ∙ e))
