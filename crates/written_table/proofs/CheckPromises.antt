-- What the definitions give keeps the promise of the check.
-- Assumes nothing.
use mathlib.Core.Path.{◌≡◌, refl, sym, ◌∙◌, ap, subst}
use mathlib.Core.Logic.{◌⊎◌, inl, inr, ⊎_elim}
use mathlib.Core.List.{List}
use Prim.Native.Nat.{ℕ, zero-le}
use lib.ListN.{length}
use Rattle.std.specs.Prelude.{Result, Ok, Err}
use Rattle.finite.proofs.Ordinals.{ordinals}
use Rattle.order.specs.Order.{Ingredient, table, matrix, generator}
use Rattle.order.specs.Reader.{Parsed, value, refused}
use Rattle.order.specs.Range.{ingredient_range}
use Rattle.order.specs.declared.RangeFault.{RangeFault}
use Rattle.order.specs.declared.RangeFault.TheVariants.{OutOfRange, Unread}
use Rattle.order.proofs.Law.{refused_no_value, same_value}
use Rattle.order.proofs.Answers.{apart}
use Rattle.order.proofs.InRange.{ingredient_iff}
use Rattle.counting.specs.Table.{table_of, Even}
use Rattle.counting.specs.Verdict.{pairs_counted, table_verdict}
use Rattle.counting.specs.declared.verdict.TableFault.{TableFault}
use Rattle.counting.specs.declared.verdict.TableFault.TheVariants.{Column, Pair}
use Rattle.counting.proofs.TableVerdicts.{table_passes, passes_gap, table_fails, verdict_counted, counted_most}
use Rattle.sheets.specs.Outcome.{table_refusal}
use Rattle.sheets.specs.declared.answer.Refusal.{Refusal}
use Rattle.sheets.specs.declared.answer.Refusal.TheVariants.{Unreadable, EntryOutOfRange}
use Rattle.question_4.specs.Passing.{passing_of}
use Rattle.written_table.specs.WrittenTable.{read_table, refused_check, verdict_check, range_check, parsed_check, table_check}
use Rattle.written_table.specs.CheckPromise.{Writes, CheckPromise}
use Rattle.written_table.specs.declared.TableCheck.{TableCheck}
use Rattle.written_table.proofs.Readings.{Written, read_table_lem, table_read}

-- ---- the answers that a finding comes to

finding_passes : (f : Result (Unit {0}) TableFault) → passing_of (table_refusal 1 f) ≡ Ok tt → f ≡ Ok tt
unfolding passing_of table_refusal
finding_passes (Ok tt) e = refl
finding_passes (Err (Column c x n)) e = cc
finding_passes (Err (Pair c d x y n)) e = cc

passes_answer : (f : Result (Unit {0}) TableFault) → f ≡ Ok tt → passing_of (table_refusal 1 f) ≡ Ok tt
unfolding passing_of table_refusal
passes_answer f e = rw e

-- Different faults are answered differently.
finding_fails : (f : Result (Unit {0}) TableFault) (fault : TableFault) → passing_of (table_refusal 1 f) ≡ passing_of (table_refusal 1 (Err fault)) → f ≡ Err fault
unfolding passing_of table_refusal
finding_fails (Ok tt) (Column c x n) e = cc
finding_fails (Ok tt) (Pair c d x y n) e = cc
finding_fails (Err (Column c x n)) (Column c' x' n') e =
    let one : c ≡ c' = cc in
    let two : x ≡ x' = cc in
    let three : n ≡ n' = cc in
    rw (one, two, three)
finding_fails (Err (Column c x n)) (Pair c' d' x' y' n') e = cc
finding_fails (Err (Pair c d x y n)) (Column c' x' n') e = cc
finding_fails (Err (Pair c d x y n)) (Pair c' d' x' y' n') e =
    let one : c ≡ c' = cc in
    let two : d ≡ d' = cc in
    let three : x ≡ x' = cc in
    let four : y ≡ y' = cc in
    let five : n ≡ n' = cc in
    rw (one, two, three, four, five)

-- So the answer tells what was found.
finding_same : (f found : Result (Unit {0}) TableFault) → passing_of (table_refusal 1 f) ≡ passing_of (table_refusal 1 found) → f ≡ found
unfolding passing_of table_refusal
finding_same f (Ok tt) e = finding_passes f e
finding_same f (Err fault) e = finding_fails f fault e

-- Refusals 2 and 3.
abbrev Unjudged : Refusal → Type 0
Unjudged why = (place : ℕ) × ((why ≡ Unreadable place) ⊎ (why ≡ EntryOutOfRange place))

-- They are what no finding comes to.
unreadable_no_finding : (f : Result (Unit {0}) TableFault) (place : ℕ) → passing_of (table_refusal 1 f) ≡ Err (Unreadable place) → ⊥
unfolding passing_of table_refusal
unreadable_no_finding (Ok tt) place e = cc
unreadable_no_finding (Err (Column c x n)) place e = cc
unreadable_no_finding (Err (Pair c d x y n)) place e = cc

out_no_finding : (f : Result (Unit {0}) TableFault) (place : ℕ) → passing_of (table_refusal 1 f) ≡ Err (EntryOutOfRange place) → ⊥
unfolding passing_of table_refusal
out_no_finding (Ok tt) place e = cc
out_no_finding (Err (Column c x n)) place e = cc
out_no_finding (Err (Pair c d x y n)) place e = cc

unjudged_no_finding : (why : Refusal) → Unjudged why → (f : Result (Unit {0}) TableFault) → passing_of (table_refusal 1 f) ≡ Err why → ⊥
unjudged_no_finding why (place, is) f e =
    ⊎_elim (λ h. unreadable_no_finding f place (e ∙ ap Err h)) (λ h. out_no_finding f place (e ∙ ap Err h)) is

-- ---- the promise, answer by answer

-- A table that is written is read.
writes_read : {list : List ℕ} {rows : ℕ} {levels entries : List ℕ} → Writes list rows levels entries → read_table list ≡ value (table rows levels entries) (length list)
writes_read w = table_read (record { short = w.short; limits = w.limits; same = w.same })

module _ (list : List ℕ) where
  -- A refusal by 2 or 3 of a list that writes no table with every entry in range.
  refused_promised : (why : Refusal) → Unjudged why → ((rows : ℕ) (levels entries : List ℕ) → Writes list rows levels entries → ⊥)
      → refused_check why ≡ table_check list → CheckPromise list (refused_check why)
  refused_promised why unjudged none_written e =
      record {
        answered = e;
        passes_when = (λ p. cc, λ v. absurd (none_written _ _ _ v.writes));
        fails_for = λ fault p. absurd (unjudged_no_finding why unjudged (Err fault) (sym p));
        uneven_fails = λ w odd. absurd (none_written _ _ _ w);
        gap_passes = λ p. refl;
        gap_none = λ place p. refl;
        pairs_are = λ w found p. absurd (none_written _ _ _ w);
        in_order = ordinals;
        pairs_none = λ place p. refl;
        pairs_most = zero-le;
      }

  -- The table that was read is the only one that the list writes.
  module _ {rows : ℕ} {levels entries : List ℕ} {next : ℕ} (e : read_table list ≡ value (table rows levels entries) next) where
    only : (Q : Ingredient → Type 0) {rows' : ℕ} {levels' entries' : List ℕ} → Writes list rows' levels' entries'
        → Q (table rows' levels' entries') → Q (table rows levels entries)
    only Q w q = same_value (λ g next. Q g) (sym (writes_read w) ∙ e) q

    -- The verdict on a table with every entry in range.
    verdict_promised : Writes list rows levels entries → verdict_check (table_verdict (table_of entries levels rows)) ≡ table_check list
        → CheckPromise list (verdict_check (table_verdict (table_of entries levels rows)))
    unfolding table_of
    verdict_promised w is =
        let T = table_of entries levels rows in
        record {
          answered = is;
          passes_when = (
            λ p. record { rows = rows; levels = levels; entries = entries; writes = w; even = (table_passes T).0 (finding_passes _ p) },
            λ v. passes_answer _ ((table_passes T).1 (only Evenly v.writes v.even)),
          );
          fails_for = λ fault p.
              record {
                rows = rows;
                levels = levels;
                entries = entries;
                writes = w;
                first_fault = table_fails T fault (finding_fails _ fault p);
              };
          uneven_fails = λ v odd. named (only (λ g. Evenly g → ⊥) v odd) (table_verdict T).finding refl;
          gap_passes = λ p. passes_gap T (finding_passes _ p);
          gap_none = λ place p. absurd (⊎_elim (unreadable_no_finding _ place) (out_no_finding _ place) p);
          pairs_are = λ {levels = levels'} v found p.
              rw (only (Wide (length levels')) v refl) (verdict_counted T ∙ ap (pairs_counted (length levels)) (finding_same _ found p));
          in_order = ordinals;
          pairs_none = λ place p. absurd (⊎_elim (unreadable_no_finding _ place) (out_no_finding _ place) p);
          pairs_most = counted_most T w.limits.1.1;
        }
      where
        Evenly : Ingredient → Type 0
        Evenly (table rows levels entries) = Even 2 (table_of entries levels rows)
        Evenly (matrix rows columns p entries) = Unit {0}
        Evenly (generator t s widths entries) = Unit {0}

        Wide : ℕ → Ingredient → Type 0
        Wide m (table rows levels entries) = m ≡ length levels
        Wide m (matrix rows columns p entries) = Unit {0}
        Wide m (generator t s widths entries) = Unit {0}

        named : (Even 2 (table_of entries levels rows) → ⊥) → (f : Result (Unit {0}) TableFault) → (table_verdict (table_of entries levels rows)).finding ≡ f
            → (fault : TableFault) × (passing_of (table_refusal 1 (table_verdict (table_of entries levels rows)).finding) ≡ passing_of (table_refusal 1 (Err fault)))
        named odd (Ok tt) e = absurd (odd ((table_passes _).0 e))
        named odd (Err fault) e = (fault, ap (λ f. passing_of (table_refusal 1 f)) e)

    -- An entry out of range: no table with every entry in range is written.
    not_in_range : (ingredient_range 3 (table rows levels entries) ≡ Ok tt → ⊥)
        → (rows' : ℕ) (levels' entries' : List ℕ) → Writes list rows' levels' entries' → ⊥
    not_in_range high rows' levels' entries' w = high (only (λ g. ingredient_range 3 g ≡ Ok tt) w ((ingredient_iff 3 _).1 w.in_range))

    table_promised : Written list (table rows levels entries) → CheckPromise list (table_check list)
    unfolding table_check
    table_promised read = go (ingredient_range 3 (table rows levels entries)) refl
      where
        by_range : (x : Result (Unit {0}) RangeFault) → ingredient_range 3 (table rows levels entries) ≡ x → range_check x (table_verdict (table_of entries levels rows)) ≡ table_check list
        by_range x r = ap (λ y. range_check y (table_verdict (table_of entries levels rows))) (sym r) ∙ ap parsed_check (sym e)

        go : (x : Result (Unit {0}) RangeFault) → ingredient_range 3 (table rows levels entries) ≡ x → CheckPromise list (table_check list)
        go (Ok tt) r =
            let w : Writes list rows levels entries = record { short = read.short; limits = read.limits; same = read.same; in_range = (ingredient_iff 3 _).0 r } in
            subst (CheckPromise list) (by_range (Ok tt) r) (verdict_promised w (by_range (Ok tt) r))
        go (Err (OutOfRange place)) r =
            subst (CheckPromise list) (by_range (Err (OutOfRange place)) r)
            (refused_promised (EntryOutOfRange place) (place, inr refl) (not_in_range (λ i. apart (sym i ∙ r))) (by_range (Err (OutOfRange place)) r))
        go (Err Unread) r =
            subst (CheckPromise list) (by_range (Err Unread) r)
            (refused_promised (Unreadable 0) (0, inl refl) (not_in_range (λ i. apart (sym i ∙ r))) (by_range (Err Unread) r))

-- The answer that the definitions give keeps the promise.
pub check_promised : (list : List ℕ) → CheckPromise list (table_check list)
unfolding table_check
check_promised list = go (read_table list) refl
  where
    go : (p : Parsed Ingredient) → read_table list ≡ p → CheckPromise list (table_check list)
    go (refused place) e =
        let is : refused_check (Unreadable place) ≡ table_check list = ap parsed_check (sym e) in
        subst (CheckPromise list) is (refused_promised list (Unreadable place) (place, inl refl) (λ rows levels entries w. refused_no_value (sym e ∙ writes_read w)) is)
    go (value g next) e =
        read_table_lem list g next e λ rows levels entries is read.
        table_promised list (e ∙ ap (λ g. value g next) is) read

-- And so does an answer that is equal to it.
pub promised_by : {list : List ℕ} {r : TableCheck} → r ≡ table_check list → CheckPromise list r
promised_by {list} e = subst (CheckPromise list) (sym e) (check_promised list)
