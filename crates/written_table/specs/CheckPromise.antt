-- What the check of a table that is handed in by itself promises: document 02, K5 and K8.
use Rattle.std.specs.Prelude.{◌≡◌, ◌↔◌, ◌⊎◌, List, ℕ, ◌≤◌, ◌<◌, ℤ, pos, length, get_or, Result, Ok, Err}
use Rattle.finite.specs.Pairs.{Ordinals}
use Rattle.order.specs.Order.{table, IngredientLimits, written_ingredient}
use Rattle.order.specs.Range.{bound}
use Rattle.counting.specs.Table.{table_of, Even}
use Rattle.counting.specs.Verdict.{pairs_counted}
use Rattle.counting.specs.Failures.{FirstFault}
use Rattle.counting.specs.declared.verdict.TableFault.{TableFault}
use Rattle.sheets.specs.Outcome.{table_refusal}
use Rattle.sheets.specs.declared.answer.Refusal.TheVariants.{Unreadable, EntryOutOfRange}
use Rattle.question_4.specs.Passing.{passing_of}
use Rattle.written_table.specs.WrittenTable.{table_check}
use Rattle.written_table.specs.declared.TableCheck.{TableCheck}

-- The list is the writing of this table, and no longer than 32,768 numbers; the table keeps the limits of 01, and every entry is below its level count.
pub record Writes (list : List ℕ) (rows : ℕ) (levels entries : List ℕ) : Type 0 where
  pub short : length list ≤ 32768
  pub limits : IngredientLimits (table rows levels entries)
  pub same : written_ingredient (table rows levels entries) ≡ list
  pub in_range : (q : ℕ) → q < length entries → get_or entries q 0 < bound (table rows levels entries) q

-- The list writes a table that is even at strength two.
pub record WritesEven (list : List ℕ) : Type 0 where
  pub rows : ℕ
  pub levels : List ℕ
  pub entries : List ℕ
  pub writes : Writes list rows levels entries
  pub even : Even 2 (table_of entries levels rows)

-- The list writes a table whose first fault this is, of two columns the pair of levels that is farthest off, with the gap that goes with it.
pub record WritesFailing (list : List ℕ) (fault : TableFault) (gap : ℤ) : Type 0 where
  pub rows : ℕ
  pub levels : List ℕ
  pub entries : List ℕ
  pub writes : Writes list rows levels entries
  pub first_fault : FirstFault (table_of entries levels rows) fault gap

-- The promise, for a list and what is answered of it.
pub record CheckPromise (list : List ℕ) (r : TableCheck) : Type 0 where
  -- the answer is what the definitions give
  pub answered : r ≡ table_check list
  -- it is that the table passes exactly when the list writes an even table
  pub passes_when : (r.passing ≡ Ok tt) ↔ WritesEven list
  -- refusals 4 and 5 name the first fault of the table, as ingredient 1, and the gap goes with it
  pub fails_for : (fault : TableFault) → r.passing ≡ passing_of (table_refusal 1 (Err fault)) → WritesFailing list fault r.gap
  -- one of these is answered wherever the list writes a table that is not even
  pub uneven_fails : {rows : ℕ} {levels entries : List ℕ} → Writes list rows levels entries → (Even 2 (table_of entries levels rows) → ⊥)
      → (fault : TableFault) × (r.passing ≡ passing_of (table_refusal 1 (Err fault)))
  -- after a pass the gap is 0, and after refusals 2 and 3
  pub gap_passes : r.passing ≡ Ok tt → r.gap ≡ pos 0
  pub gap_none : (place : ℕ) → (r.passing ≡ Err (Unreadable place)) ⊎ (r.passing ≡ Err (EntryOutOfRange place)) → r.gap ≡ pos 0
  -- the pairs of columns that were counted go with what was found of the table (02, K8): all of them, none, or the place of the two that are named
  pub pairs_are : {rows : ℕ} {levels entries : List ℕ} → Writes list rows levels entries → (found : Result (Unit {0}) TableFault)
      → r.passing ≡ passing_of (table_refusal 1 found) → r.pairs ≡ pairs_counted (length levels) found
  -- that is their place in the order 1-2, 1-3, .., whatever the number of columns
  pub in_order : (m : ℕ) → Ordinals m
  -- after refusals 2 and 3 none were counted, and never more than 8,128
  pub pairs_none : (place : ℕ) → (r.passing ≡ Err (Unreadable place)) ⊎ (r.passing ≡ Err (EntryOutOfRange place)) → r.pairs ≡ 0
  pub pairs_most : r.pairs ≤ 8128
