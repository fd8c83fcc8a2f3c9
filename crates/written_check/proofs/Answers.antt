-- What the parts of the code find is what the definitions give.
-- Assumes nothing.
use Rattle.std.specs.Prelude.{Result, Ok, Err, Some}
use mathlib.Core.Path.{◌≡◌, refl, sym, ◌∙◌, ap, subst}
use mathlib.Core.Bool.{Bool, true, false}
use mathlib.Core.List.{List}
use Prim.Native.Nat.{ℕ, ◌+◌, ◌≤◌, ◌<◌}
use native.Mathlib.Nat.{le_of_eq}
use borrow.Author.Tests.{lt-ltb, le-ltb, eq-eqb, ne_eqb}
use lib.Dec.{ltb}
use lib.ListN.{length, get_or, replicate, length-replicate}
use Rattle.order.specs.Order.{Ingredient, table}
use Rattle.order.specs.Reader.{value, refused, when, continue}
use Rattle.order.specs.Grammar.{read_ingredient, at_end}
use Rattle.order.specs.Answers.{located, spot_of}
use Rattle.order.specs.Range.{ingredient_range, earlier}
use Rattle.order.specs.declared.Cursor.{Cursor}
use Rattle.order.specs.declared.RangeFault.{RangeFault}
use Rattle.order.specs.declared.RangeFault.TheVariants.{OutOfRange, Unread}
use Rattle.order.specs.declared.Located.{Located}
use Rattle.order.specs.declared.Located.TheVariants.{Table as TableAt, Matrix as MatrixAt, Generator as GeneratorAt}
use Rattle.order.specs.declared.Refused.{Refused}
use Rattle.order.proofs.Answers.{spot_value, spot_refused}
use Rattle.order.proofs.InRange.{ingredient_iff}
use Rattle.counting.specs.Table.{table_of}
use Rattle.counting.specs.Verdict.{table_verdict}
use Rattle.counting.specs.declared.verdict.TableVerdict.{TableVerdict}
use Rattle.ingredients.specs.Named.{own_table, table_in}
use Rattle.ingredients.specs.Standing.{TableStands}
use Rattle.ingredients.specs.declared.named.NamedTable.TheVariants.{Own}
use Rattle.sheets.specs.declared.answer.Refusal.TheVariants.{Unreadable, EntryOutOfRange}
use Rattle.question_4.specs.Passing.{Room}
use Rattle.entry_range.specs.Search.{scanned}
use Rattle.written_table.specs.WrittenTable.{read_table, refused_check, verdict_check, range_check, parsed_check, table_check}
use Rattle.written_table.specs.CheckPromise.{Writes}
use Rattle.written_table.specs.declared.TableCheck.{TableCheck}
use Rattle.written_table.proofs.Readings.{Written, read_table_lem, ingredient_read}
use Rattle.written_table.proofs.Written.{table_stands, table_there}
use Rattle.written_check.specs.Reading.{to_end, ReadAs}

-- ---- question 2

-- A number is left over, or none is.
module _ (what : Located) (next : Cursor) (end : ℕ) where
  pub left_over : next.at < end → Err (record { place = next.at }) ≡ to_end what next end
  unfolding to_end
  left_over h = rw (lt-ltb next.at end h)

  pub none_left : end ≤ next.at → Ok (what, record { at = end }) ≡ to_end what next end
  unfolding to_end
  none_left h = rw (le-ltb next.at end h)

module _ (list : List ℕ) where
  pub too_long : 32768 < length list → Err (record { place = 32768 }) ≡ spot_of 3 (read_table list)
  unfolding read_table spot_of
  too_long long = rw (lt-ltb 32768 (length list) long)

  module _ (short : length list ≤ 32768) where
    pub no_table : (get_or list 0 0 ≡ 1 → ⊥) → Err (record { place = 0 }) ≡ spot_of 3 (read_table list)
    unfolding read_table spot_of
    no_table other = rw (le-ltb 32768 (length list) short, ne_eqb (get_or list 0 0) 1 other)

    module _ (one : get_or list 0 0 ≡ 1) where
      from_ingredient : continue (read_ingredient list 0) (λ g next. at_end g list next) ≡ read_table list
      unfolding read_table
      from_ingredient = rw (le-ltb 32768 (length list) short, eq-eqb (get_or list 0 0) 1 one)

      pub table_refused : {refusal : Refused} → spot_of 3 (read_ingredient list 0) ≡ Err refusal → Err refusal ≡ spot_of 3 (read_table list)
      unfolding spot_of
      table_refused e =
          ap (λ p. spot_of 3 (continue p (λ g next. at_end g list next))) (sym (spot_refused 3 (read_ingredient list 0) e)) ∙ ap (spot_of 3) from_ingredient

      -- The ingredient and the end of the list.
      ended : (g : Ingredient) (at : ℕ) → to_end (located 3 g) (record { at = at }) (length list) ≡ spot_of 3 (at_end g list at)
      unfolding to_end spot_of
      ended g at = go (ltb at (length list))
        where
          go : (b : Bool) → when b (Err (record { place = at })) (Ok (located 3 g, record { at = length list })) ≡ spot_of 3 (when b (refused at) (value g (length list)))
          go true = refl
          go false = refl

      pub table_found : {what : Located} {next : Cursor} {r : Result (Located × Cursor) Refused} → spot_of 3 (read_ingredient list 0) ≡ Ok (what, next) → r ≡ to_end what next (length list) → r ≡ spot_of 3 (read_table list)
      table_found {what} {next} e r =
          spot_value 3 (read_ingredient list 0) e λ g same v.
          r ∙ ap (λ w. to_end w next (length list)) same ∙ ended g next.at
          ∙ ap (λ p. spot_of 3 (continue p (λ g next. at_end g list next))) (sym v) ∙ ap (spot_of 3) from_ingredient

-- What the reading says of the answer.
pub read_refused : (list : List ℕ) {r : TableCheck} {refusal : Refused} → spot_of 3 (read_table list) ≡ Err refusal → r ≡ refused_check (Unreadable refusal.place) → r ≡ table_check list
unfolding table_check
read_refused list e h = h ∙ ap parsed_check (sym (spot_refused 3 _ e))

pub read_as : (list : List ℕ) {what : Located} {next : Cursor} → spot_of 3 (read_table list) ≡ Ok (what, next) → ReadAs list what
read_as list {what} {next} e =
    spot_value 3 (read_table list) e λ g same v. record { ingredient = g; next = next.at; reads = v; places = same }

-- ---- question 3

earlier_last : (x : Result (Unit {0}) RangeFault) → earlier x (Ok tt) ≡ x
earlier_last (Ok tt) = refl
earlier_last (Err fault) = refl

scanned_one : {list : List ℕ} {rows : ℕ} {levels entries : List ℕ} → Written list (table rows levels entries) → scanned 1 list 0 ≡ ingredient_range 3 (table rows levels entries)
scanned_one read = rw (ingredient_read read) (earlier_last _)

module _ {list : List ℕ} {what : Located} (read : ReadAs list what) where
  -- What was read is a table, and the answer goes by what question 3 finds.
  by_range : {C : Type 0} (x : Result (Unit {0}) RangeFault) → scanned 1 list 0 ≡ x
      → ((rows : ℕ) (levels entries : List ℕ) → what ≡ TableAt rows (length levels) 3 (3 + length levels) → Written list (table rows levels entries)
      → ingredient_range 3 (table rows levels entries) ≡ x → range_check x (table_verdict (table_of entries levels rows)) ≡ table_check list → C)
      → C
  unfolding table_check
  by_range x e found =
      read_table_lem list read.ingredient read.next read.reads λ rows levels entries is reads.
      let range : ingredient_range 3 (table rows levels entries) ≡ x = sym (scanned_one reads) ∙ e in
      found rows levels entries (read.places ∙ ap (located 3) is) reads range
      (ap (λ y. range_check y (table_verdict (table_of entries levels rows))) (sym range) ∙ ap parsed_check (sym (read.reads ∙ ap (λ g. value g read.next) is)))

  pub out_of_range : {r : TableCheck} {place : ℕ} → scanned 1 list 0 ≡ Err (OutOfRange place) → r ≡ refused_check (EntryOutOfRange place) → r ≡ table_check list
  out_of_range e h = by_range _ e λ rows levels entries same reads range is. h ∙ is

  pub unread : {r : TableCheck} → scanned 1 list 0 ≡ Err Unread → r ≡ refused_check (Unreadable 0) → r ≡ table_check list
  unread e h = by_range _ e λ rows levels entries same reads range is. h ∙ is

  -- ---- question 4

  module _ (e : scanned 1 list 0 ≡ Ok tt) where
    written : {C : Type 0}
        → ((rows : ℕ) (levels entries : List ℕ) → what ≡ TableAt rows (length levels) 3 (3 + length levels) → Writes list rows levels entries
        → verdict_check (table_verdict (table_of entries levels rows)) ≡ table_check list → C)
        → C
    written found =
        by_range _ e λ rows levels entries same reads range is.
        found rows levels entries same
        (record { short = reads.short; limits = reads.limits; same = reads.same; in_range = (ingredient_iff 3 _).0 range }) is

    -- It stands where it was read.
    pub stands_there : {rows columns levels_at entries_at : ℕ} → what ≡ TableAt rows columns levels_at entries_at → TableStands list rows columns levels_at entries_at
    stands_there there = written λ rows levels entries same w is. subst StandsAt (sym same ∙ there) (table_stands w)
      where
        StandsAt : Located → Type 0
        StandsAt (TableAt rows columns levels_at entries_at) = TableStands list rows columns levels_at entries_at
        StandsAt (MatrixAt rows columns p entries_at) = Unit {0}
        StandsAt (GeneratorAt t n s widths_at width entries_at) = Unit {0}

    -- It is nothing but a table, as a `match` knows it.
    pub no_other : ((rows columns levels_at entries_at : ℕ) → what ≡ TableAt rows columns levels_at entries_at → ⊥) → ⊥
    no_other other = written λ rows levels entries same w is. other _ _ _ _ same

    pub verdict_answer : {rows columns levels_at entries_at : ℕ} {verdict : TableVerdict} {r : TableCheck} → what ≡ TableAt rows columns levels_at entries_at
        → verdict ≡ table_verdict (table_in list (Own rows columns levels_at entries_at)) → r ≡ verdict_check verdict → r ≡ table_check list
    unfolding own_table
    verdict_answer there v h =
        written λ rows levels entries same w is.
        h ∙ ap verdict_check (v ∙ ap table_verdict (ap (λ L. table_in list (own_table (Some L))) (sym there ∙ same) ∙ table_there w)) ∙ is

-- Arrays of zeros as they are made are room for the numbers of any table.
pub made_room : (n m : ℕ) → 65536 ≡ n → 128 ≡ m → Room (replicate n 0) (replicate m 0)
made_room n m long many =
    record {
      cells_long = le_of_eq (long ∙ sym (length-replicate n 0));
      numbers_long = le_of_eq (many ∙ sym (length-replicate m 0));
      cells_clear = ap (λ (k : ℕ). replicate k 0) (sym (length-replicate n 0));
      numbers_clear = ap (λ (k : ℕ). replicate k 0) (sym (length-replicate m 0));
    }
