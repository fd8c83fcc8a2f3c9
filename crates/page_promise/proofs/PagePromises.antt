-- The answer and the bytes of a page decide all that is promised of it.
-- Assumes nothing.
use mathlib.Core.Path.{◌≡◌, refl, sym, ◌∙◌, subst}
use mathlib.Core.Logic.{◌↔◌, ◌⊎◌, inl, inr, ⊎_elim, by_cases}
use mathlib.Core.Bool.{Bool, true, false, ◌&&◌, and-false}
use mathlib.Core.List.{List}
use Prim.Native.Nat.{ℕ, ◌≤◌, ◌<◌}
use native.Mathlib.Decide.{dec_lt}
use native.Mathlib.Omega.{arith}
use borrow.Author.Tests.{le-leb, lt-leb}
use lib.Dec.{T, leb}
use lib.ListN.{length, take}
use Rattle.counting.specs.Table.{Table, table_of}
use Rattle.pieces.specs.Padded.{zeros, padded}
use Rattle.pieces.proofs.Padded.{padded_front}
use Rattle.given_sheet.specs.Given.{WellFormed, well_formed, given_sheet}
use Rattle.given_sheet.proofs.Given.{well_formed_iff, stands_formed}
use Rattle.given_sheet.proofs.Sheet.{given_columns}
use Rattle.page_text.specs.Pages.{page_count, page_text}
use Rattle.page_text.proofs.Counts.{pages_most}
use Rattle.page_text.proofs.Lines.{page_length}
use Rattle.page_text.proofs.Rooms.{given_room}
use Rattle.legible.specs.Faithful.{Faithful}
use Rattle.legible.proofs.Faithful.{faithful}
use Rattle.legible.proofs.Places.{printed_once}
use Rattle.page_promise.specs.PagePromise.{page_answer, page_bytes, PagePromise}

-- ---- the answer, case by case

module _ (N m : ℕ) (levels table : List ℕ) (number room : ℕ) where
  -- the answer and the bytes that the definitions give
  abbrev pub PageSettled : ℕ → List ℕ → Type 0
  PageSettled answer bytes = (answer ≡ page_answer N m levels table number room) × (bytes ≡ page_bytes N m levels table number room)

  pub sheet_refused : well_formed N m levels table ≡ false → PageSettled 1 (zeros room)
  unfolding page_bytes page_answer
  sheet_refused e = rw e (refl, refl)

  module _ (stands : well_formed N m levels table ≡ true) where
    pub buffer_refused : room < 4800 → PageSettled 12 (zeros room)
    unfolding page_bytes page_answer
    buffer_refused h = rw (stands, lt-leb 4800 room h) (refl, refl)

    module _ (long : 4800 ≤ room) where
      pub page_refused : (leb 1 number && leb number (page_count N m)) ≡ false → PageSettled 13 (zeros room)
      unfolding page_bytes page_answer
      page_refused e = rw (stands, le-leb 4800 room long, e) (refl, refl)

      pub page_printed : (leb 1 number && leb number (page_count N m)) ≡ true → PageSettled 0 (padded room (page_text (given_sheet N m levels table) number))
      unfolding page_bytes page_answer
      page_printed e = rw (stands, le-leb 4800 room long, e) (refl, refl)

-- ---- the answer as conditions

module _ (N m : ℕ) (levels table : List ℕ) (number room : ℕ) where
  -- one of four, each with what it says
  data Case : ℕ → Type 0 where
    bad : (WellFormed N m levels table → ⊥) → Case 1
    short : WellFormed N m levels table → room < 4800 → Case 12
    past : WellFormed N m levels table → 4800 ≤ room → (number ≡ 0) ⊎ (page_count N m < number) → Case 13
    fine : WellFormed N m levels table → 4800 ≤ room → 1 ≤ number → number ≤ page_count N m → Case 0

  -- what the promise says of an answer
  record Answers (answer : ℕ) : Type 0 where
    refused_sheet : (answer ≡ 1) ↔ (WellFormed N m levels table → ⊥)
    refused_buffer : (answer ≡ 12) ↔ (WellFormed N m levels table × (room < 4800))
    refused_page : (answer ≡ 13) ↔ (WellFormed N m levels table × (4800 ≤ room) × ((number ≡ 0) ⊎ (page_count N m < number)))
    printed : (answer ≡ 0) ↔ (WellFormed N m levels table × (4800 ≤ room) × (1 ≤ number) × (number ≤ page_count N m))

  case_answers : {answer : ℕ} → Case answer → Answers answer
  case_answers (bad not) =
      record {
        refused_sheet = (λ e. not, λ w. refl);
        refused_buffer = (λ e. absurd (omega (arith, e)), λ h. absurd (not h.0));
        refused_page = (λ e. absurd (omega (arith, e)), λ h. absurd (not h.0));
        printed = (λ e. absurd (omega (arith, e)), λ h. absurd (not h.0));
      }
  case_answers (short w less) =
      record {
        refused_sheet = (λ e. absurd (omega (arith, e)), λ not. absurd (not w));
        refused_buffer = (λ e. (w, less), λ h. refl);
        refused_page = (λ e. absurd (omega (arith, e)), λ h. absurd (omega (arith, h.1)));
        printed = (λ e. absurd (omega (arith, e)), λ h. absurd (omega (arith, h.1)));
      }
  case_answers (past w long out) =
      record {
        refused_sheet = (λ e. absurd (omega (arith, e)), λ not. absurd (not w));
        refused_buffer = (λ e. absurd (omega (arith, e)), λ h. absurd (omega (arith, h.1)));
        refused_page = (λ e. (w, long, out), λ h. refl);
        printed = (λ e. absurd (omega (arith, e)), λ h. absurd (⊎_elim (λ (z : number ≡ 0). omega (arith, z, h.2)) (λ (o : page_count N m < number). omega (arith, o, h.3)) out));
      }
  case_answers (fine w long one most) =
      record {
        refused_sheet = (λ e. absurd (omega (arith, e)), λ not. absurd (not w));
        refused_buffer = (λ e. absurd (omega (arith, e)), λ h. absurd (omega (arith, h.1)));
        refused_page = (λ e. absurd (omega (arith, e)), λ h. absurd (⊎_elim (λ (z : number ≡ 0). omega (arith, z)) (λ (o : page_count N m < number). omega (arith, o)) h.2));
        printed = (λ e. (w, long, one, most), λ h. refl);
      }

  which : Case (page_answer N m levels table number room)
  which = go (well_formed N m levels table) refl
    where
      -- whether there is such a page
      paged : well_formed N m levels table ≡ true → WellFormed N m levels table → 4800 ≤ room → Case (page_answer N m levels table number room)
      paged stands w long =
          by_cases (dec_lt number 1)
          (λ (z : number < 1).
          let none : (leb 1 number && leb number (page_count N m)) ≡ false = rw (lt-leb 1 number z) in
          subst Case (page_refused N m levels table number room stands long none).0 (past w long (inl (omega arith))))
          (λ one.
          by_cases (dec_lt (page_count N m) number)
          (λ (o : page_count N m < number).
          let none : (leb 1 number && leb number (page_count N m)) ≡ false = rw (lt-leb number (page_count N m) o) (and-false (leb 1 number)) in
          subst Case (page_refused N m levels table number room stands long none).0 (past w long (inr o)))
          (λ most.
          let least : 1 ≤ number = omega arith in
          let within : number ≤ page_count N m = omega arith in
          let there : (leb 1 number && leb number (page_count N m)) ≡ true = rw (le-leb 1 number least, le-leb number (page_count N m) within) in
          subst Case (page_printed N m levels table number room stands long there).0 (fine w long least within)))

      go : (b : Bool) → well_formed N m levels table ≡ b → Case (page_answer N m levels table number room)
      go false e =
          subst Case (sheet_refused N m levels table number room e).0 (bad (λ w. absurd (subst T e ((well_formed_iff N m levels table).1 w))))
      go true e =
          let w = stands_formed N m levels table e in
          by_cases (dec_lt room 4800)
          (λ (h : room < 4800). subst Case (buffer_refused N m levels table number room e h).0 (short w h))
          (λ h. paged e w (omega arith))

  -- so where the tests are passed, the conditions hold
  pub passed_conditions : well_formed N m levels table ≡ true → 4800 ≤ room → (leb 1 number && leb number (page_count N m)) ≡ true
      → WellFormed N m levels table × (4800 ≤ room) × (1 ≤ number) × (number ≤ page_count N m)
  passed_conditions stands long there =
      (case_answers (subst Case (sym (page_printed N m levels table number room stands long there).0) which)).printed.0 refl

-- ---- all that is promised

-- what is printed is faithful
module _ {N m : ℕ} {levels table : List ℕ} (sheet : WellFormed N m levels table) {number : ℕ} (one : 1 ≤ number) (most : number ≤ page_count N m) where
  abbrev sheet_given : Table
  sheet_given = given_sheet N m levels table

  printed_text : (room : ℕ) → page_answer N m levels table number room ≡ 0 → take 4800 (page_bytes N m levels table number room) ≡ page_text sheet_given number
  unfolding page_bytes
  printed_text room e =
      rw e
      (padded_front room 4800 (page_text sheet_given number)
      (page_length sheet_given number (given_room sheet) (omega (arith, pages_most N m sheet.runs_most sheet.columns_most))))

  text_faithful : Faithful sheet_given number (page_text sheet_given number)
  unfolding given_sheet table_of
  text_faithful =
      faithful sheet_given number (given_room sheet) sheet.runs_some one (rw (given_columns sheet) most)

pub page_promised : (N m : ℕ) (levels table : List ℕ) (number : ℕ) (before : List ℕ) {answer : ℕ} {after : List ℕ} → PageSettled N m levels table number (length before) answer after
    → PagePromise N m levels table number before answer after
page_promised N m levels table number before settled =
    let says =
    case_answers N m levels table number (length before)
    (subst (Case N m levels table number (length before)) (sym settled.0) (which N m levels table number (length before))) in
    record {
      answered = settled.0;
      bytes_are = settled.1;
      refused_sheet = says.refused_sheet;
      refused_buffer = says.refused_buffer;
      refused_page = says.refused_page;
      printed = says.printed;
      faithful = λ e.
          let stands = says.printed.0 e in
          rw (settled.1, printed_text stands.0 stands.2 stands.3 (length before) (sym settled.0 ∙ e)) (text_faithful stands.0 stands.2 stands.3);
      once = printed_once N m;
    }
