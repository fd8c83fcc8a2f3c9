-- What `plan` promises: demands 1, 2 and 3, over every list and whatever the buffers held (document 01, "The questions, in turn"), with the spare
-- degrees of a filled order (02, K1).
use Rattle.std.specs.Prelude.{◌≡◌, ◌≢◌, ◌↔◌, Bool, cond, ◌&&◌, List, [], ◌∷◌, ℕ, ◌+◌, ◌*◌, ◌≤◌, ◌<◌, eqb, leb, ℤ, pos, length, get_or, take, ◌≤ℤ◌}
use Rattle.finite.specs.Sum.{count}
use Rattle.counting.specs.Table.{Table, columns}
use Rattle.spare.specs.Spare.{spare_of, spare}
use Rattle.sheets.specs.Refusals.{numbered, refusal_number, RefusesOrders, answer_numbers}
use Rattle.sheets.specs.Steps.{Outcome, filled, refused}
use Rattle.sheets.specs.Outcome.{outcome}
use Rattle.sheets.specs.Fillable.{Fillable, ordered_table}
use Rattle.sheets.specs.declared.answer.Refusal.{Refusal}
use Rattle.sheets.specs.declared.answer.Refusal.TheVariants.{ShortBuffers}
use Rattle.sheets.specs.declared.answer.Answer.{Answer}
use Rattle.sheets.specs.declared.answer.Answer.TheVariants.{Filled, Refused}
use Rattle.causes.specs.Causes.{Cause}
use Rattle.layout.specs.Bytes.{runs_of, zeros, padded, lengths_of, LongEnough}

-- Question 1, from the lengths of run table, level list and scratch alone
abbrev pub suffice : ℕ → ℕ → ℕ → Bool
suffice n m k = leb 65536 n && leb 128 m && leb 65536 k

-- and then what the list comes to
unfoldable pub planned : List ℕ → ℕ → ℕ → ℕ → Outcome
planned list n m k = cond (suffice n m k) (outcome list) (refused ShortBuffers)

-- the answer: the table's size and its spare degrees, or why there is none
unfoldable pub answer_to : Outcome → Answer
answer_to (filled S) = Filled S.runs (columns S) (spare S)
answer_to (refused why) = Refused why

-- and the same in 01's numbers
unfoldable pub planned_numbers : Outcome → List ℕ
planned_numbers (filled S) = 0 ∷ S.runs ∷ columns S ∷ 0 ∷ 0 ∷ 0 ∷ 0 ∷ []
planned_numbers (refused why) = numbered why

-- Every byte of a run table of n bytes at the end: the table run by run from byte 0, and zeros after it; all zeros where the order is refused.
unfoldable pub table_bytes : ℕ → Outcome → List ℕ
table_bytes n (filled S) = padded n (runs_of S)
table_bytes n (refused why) = zeros n

-- Every byte of a level list of n bytes: the level counts, and zeros after them; all zeros where the order is refused.
unfoldable pub level_bytes : ℕ → Outcome → List ℕ
level_bytes n (filled S) = padded n S.levels
level_bytes n (refused why) = zeros n

-- what is there where a list comes to an outcome: the answer, and every byte of the run table and the level list
pub record Settled (x : Outcome) (answer : Answer) (table levels : List ℕ) : Type 0 where
  pub answered : answer ≡ answer_to x
  pub table_is : table ≡ table_bytes (length table) x
  pub levels_are : levels ≡ level_bytes (length levels) x

-- Demand 3, read off the bytes that were handed back: N runs of m columns lie one after the other in the run table, and the level counts in the
-- level list.
pub record EvenBytes (N m : ℕ) (table levels : List ℕ) : Type 0 where
  -- there is a run and a column, and all entries and level counts lie within their buffers
  pub runs_some : 1 ≤ N
  pub columns_some : 1 ≤ m
  pub entries_there : N * m ≤ length table
  pub counts_there : m ≤ length levels
  -- every entry is one of its column's levels
  pub in_range : (r c : ℕ) → r < N → c < m → get_or table (r * m + c) 0 < get_or levels c 0
  -- each level of a column with s levels stands in exactly N ÷ s runs
  pub levels_even : (c x : ℕ) → c < m → x < get_or levels c 0 → get_or levels c 0 * count N (λ r. eqb (get_or table (r * m + c) 0) x) ≡ N
  -- each pair of levels of two columns with s and t levels stands in exactly N ÷ (s × t) runs
  pub pairs_even : (c d x y : ℕ) → c < m → d < m → c ≢ d → x < get_or levels c 0 → y < get_or levels d 0
      → get_or levels c 0 * get_or levels d 0 * count N (λ r. eqb (get_or table (r * m + c) 0) x && eqb (get_or table (r * m + d) 0) y) ≡ N

-- The spare degrees that were answered are those of the table that was handed back, of N runs with the first m level counts of the level list, and
-- they are never negative (Rao's bound at strength two).
pub record SpareDegrees (N m : ℕ) (spared : ℤ) (levels : List ℕ) : Type 0 where
  pub worked_out : spared ≡ spare_of N (take m levels)
  pub never_negative : pos 0 ≤ℤ spared

-- What is handed back where S is the table that was ordered: its size, its spare degrees, its runs and its level counts, in buffers of n and m bytes.
pub record Delivered (S : Table) (n m : ℕ) (answer : Answer) (table levels : List ℕ) : Type 0 where
  pub size_is : answer ≡ Filled S.runs (columns S) (spare S)
  pub runs_are : table ≡ padded n (runs_of S)
  pub counts_are : levels ≡ padded m S.levels

-- The promise, for a list and the buffers as they were, an answer, and the buffers as they are.
pub record Promise (list table levels scratch : List ℕ) (answer : Answer) (table' levels' scratch' : List ℕ) : Type 0 where
  -- the answer and every byte are what the definitions give from the list and the three lengths
  pub answered : answer ≡ answer_to (planned list (length table) (length levels) (length scratch))
  pub table_is : table' ≡ table_bytes (length table) (planned list (length table) (length levels) (length scratch))
  pub levels_are : levels' ≡ level_bytes (length levels) (planned list (length table) (length levels) (length scratch))
  pub scratch_is : scratch' ≡ zeros (length scratch)
  -- filled exactly when the stated conditions hold
  pub filled_when : ((N : ℕ) × (m : ℕ) × (spared : ℤ) × (answer ≡ Filled N m spared)) ↔ (LongEnough table levels scratch × Fillable list)
  -- and then size, spare degrees, runs and level counts are those of the table that the conditions' constructions give
  pub ordered : LongEnough table levels scratch → (f : Fillable list) → Delivered (ordered_table list f) (length table) (length levels) answer table' levels'
  -- in which every column and every two columns are even
  pub even : (N m : ℕ) (spared : ℤ) → answer ≡ Filled N m spared → EvenBytes N m table' levels'
  -- and whose spare degrees are answered
  pub spare_is : (N m : ℕ) (spared : ℤ) → answer ≡ Filled N m spared → SpareDegrees N m spared levels'
  -- a refusal's number is one of 01's eleven or 14, and its cause holds: the first No, with all that its details name
  pub refused_for : (why : Refusal) → answer ≡ Refused why
      → RefusesOrders (refusal_number why) × Cause list (lengths_of table levels scratch) why
  -- in numbers, the answer is 01's number and values: 0 with runs and columns for a filled order, or the refusal's
  pub in_numbers : answer_numbers answer ≡ planned_numbers (planned list (length table) (length levels) (length scratch))
