-- Question 5 of SUM: where its operands stand, and what the numbers among them name. CROSS begins with the same operands (02, K6).
-- Assumes nothing.
use Rattle.std.specs.Prelude
use Rattle.std.specs.Prelude.{Some, None}
use mathlib.Core.Path.{◌≡◌, refl, sym, ◌∙◌, ap, subst}
use mathlib.Core.Logic.{◌⊎◌, inl, inr, ⊎_elim}
use mathlib.Core.Bool.{Bool, true, false, cond, ◌&&◌, ◌||◌, not, or-true}
use mathlib.Core.List.{List, [], ◌∷◌, ◌++◌}
use mathlib.Core.Option.{none, some, map, bind}
use Prim.Native.Nat.{ℕ, zero, suc, ◌+◌, ◌≤◌, ◌<◌}
use native.Mathlib.Nat.{le_of_lt}
use native.Mathlib.Omega.{arith}
use borrow.Author.Tests.{eq-eqb, ne_eqb, eqb-true, eqb-false, lt-ltb, ltb-true}
use lib.Dec.{eqb, ltb}
use lib.ListN.{length, get_or, length-append}
use Rattle.counting.specs.Matrix.{Matrix, matrix_of}
use Rattle.counting.specs.Table.{Table, columns}
use Rattle.order.specs.Order.{SUM, All, IngredientNumber, SumLimits}
use Rattle.order.specs.Grammar.{read_order}
use Rattle.order.specs.declared.Located.{Located}
use Rattle.order.specs.declared.Located.TheVariants.{Table as TableAt, Matrix as MatrixAt, Generator as GeneratorAt}
use Rattle.order.proofs.Segment.{Segment, part_left, part_right, number_is, segment_fits}
use Rattle.places.specs.Places.{ingredient_at, matrices_from, adjoined_from, crossed_from}
use Rattle.step_tables.specs.Lists.{all_of}
use Rattle.sheets.specs.Ingredients.{matrix_named, matrices_named, adjoined_named}
use Rattle.sheets.specs.Steps.{Outcome, sum, provided, operation, operate, later_step}
use Rattle.sheets.specs.declared.answer.Refusal.TheVariants.{StepNotAllowed}
use Rattle.sheets.specs.declared.answer.Answer.{Answer}
use Rattle.sheets.specs.declared.answer.Answer.TheVariants.{Refused}
use Rattle.std.specs.Prelude.{Some, None}
use Rattle.ingredients.specs.Named.{own_table, named_table, table_in, Legible, some_table, some_matrix}
use Rattle.ingredients.specs.declared.named.NamedTable.{NamedTable}
use Rattle.ingredients.specs.declared.named.NamedTable.TheVariants.{Own, House, Missing}
use Rattle.ingredients.proofs.Parts.{part_length}
use Rattle.ingredients.proofs.Standing.{matrix_stands}
use Rattle.ingredients.proofs.NamedLaws.{table_named_lem, matrix_named_lem, named_legible, named_limits}
use Rattle.layout.specs.Step.{Readable, Stands, later_in, Left}
use Rattle.sum_bytes.specs.Summing.{matrix_place, placed_matrix, matrix_at, matrices_at, is_missing, SumOperands, summands_of}
use Rattle.layout.proofs.Operands.{operands_stand, later_in_lem, number_from_one}
use Rattle.sum_bytes.proofs.Serving.{untrue}

-- ---- the operands

all_numbered : (ds : List ℕ) → All IngredientNumber ds → All (λ d. 1 ≤ d) ds
all_numbered [] all = tt
all_numbered (d ∷ ds) all = (number_from_one d all.0, all_numbered ds all.1)

-- SUM's operands, with others after them
operands_among : {list : List ℕ} {at place after : ℕ} (kind : ℕ) (rest : List ℕ) → SumLimits (matrices_from list at) (adjoined_from list at)
    → at ≡ place + 1
    → Segment list place (kind ∷ length (matrices_from list at) ∷ matrices_from list at ++ adjoined_from list at ∷ rest) after
    → SumOperands list at × (at + 1 + get_or list at 0 + length rest < length list)
operands_among {list} {at} kind rest limits there s =
    let ds = matrices_from list at in
    let last = adjoined_from list at in
    let fits = segment_fits s (omega arith) in
    let operands = part_right (kind ∷ []) (length ds ∷ ds ++ last ∷ rest) s in
    let many : get_or list at 0 ≡ length ds = ap (λ (q : ℕ). get_or list q 0) there ∙ number_is (part_left (length ds ∷ []) (ds ++ last ∷ rest) operands) in
    let end : at + 1 + get_or list at 0 + length rest < length list = omega (arith, many, there, length-append ds (last ∷ rest)) in
    (record { some_matrices = rw many limits.0.0; within = omega arith; numbered = all_numbered ds limits.1 }, end)

pub operands_known : {list : List ℕ} → Readable list → {at : ℕ} → Stands list 3 at → SumOperands list at
operands_known readable {at} stands =
    operands_stand readable 3 at stands λ place after there limits s. (operands_among 3 [] limits there s).0

-- and h after them
pub cross_operands_known : {list : List ℕ} → Readable list → {at : ℕ} → Stands list 6 at
    → SumOperands list at × (at + 1 + get_or list at 0 + 1 < length list) × (1 ≤ crossed_from list at)
cross_operands_known {list} readable {at} stands =
    operands_stand readable 6 at stands λ place after there limits s.
    let (operands, within) = operands_among 6 (crossed_from list at ∷ []) limits.0 there s in
    (operands, within, number_from_one (crossed_from list at) limits.1)

pub numbers_many : {list : List ℕ} {at : ℕ} → SumOperands list at → 0 < length (matrices_from list at)
numbers_many {list} {at} stand = rw (part_length list (at + 1) (get_or list at 0) (le_of_lt stand.within)) stand.some_matrices

-- ---- what the numbers name

module _ {list : List ℕ} (readable : Readable list) where
  matrix_found : (d : ℕ) → 1 ≤ d → (L : Prelude.Option Located) → ingredient_at (read_order list) d ≡ L
      → some_matrix list L ≡ cond (ltb 0 (placed_matrix list (matrix_place L)).rows) (some (placed_matrix list (matrix_place L))) none
  unfolding some_matrix matrix_place placed_matrix matrix_of
  matrix_found d h (Some (TableAt rows k levels_at entries_at)) e = refl
  matrix_found d h (Some (MatrixAt rows k p start)) e =
      let stands = matrix_stands list readable.order readable.reads readable.in_range d h e in
      rw (lt-ltb 0 rows stands.rows_limits.0)
  matrix_found d h (Some (GeneratorAt t n s widths_at width entries_at)) e = refl
  matrix_found d h None e = refl

  one_named : (d : ℕ) → 1 ≤ d → matrix_named readable.order d ≡ cond (ltb 0 (matrix_at list d).rows) (some (matrix_at list d)) none
  unfolding matrix_at
  one_named d h =
      matrix_named_lem list readable.order readable.reads d h ∙ matrix_found d h (ingredient_at (read_order list) d) refl

  both_named : (a b : Bool) (D : Matrix) (Ds : List Matrix)
      → bind (cond a (some D) none) (λ E. map (λ Es. E ∷ Es) (cond b (some Ds) none)) ≡ cond (a && b) (some (D ∷ Ds)) none
  unfolding bind
  both_named true true D Ds = refl
  both_named true false D Ds = refl
  both_named false b D Ds = refl

  -- each number names a matrix, or not all do
  pub all_named : (ds : List ℕ) → All (λ d. 1 ≤ d) ds
      → matrices_named readable.order ds ≡ cond (all_of (λ d. ltb 0 (matrix_at list d).rows) ds) (some (matrices_at list ds)) none
  unfolding matrices_named matrices_at
  all_named [] all = refl
  all_named (d ∷ ds) all =
      rw (one_named d all.0, all_named ds all.1)
      (both_named (ltb 0 (matrix_at list d).rows) (all_of (λ e. ltb 0 (matrix_at list e).rows) ds) (matrix_at list d) (matrices_at list ds))

  -- number 0 names no table
  none_at_zero : named_table (read_order list) 0 ≡ Missing
  unfolding named_table own_table ingredient_at
  none_at_zero = rw readable.reads

  pub found_table : (t : NamedTable) → is_missing t ≡ false → some_table list t ≡ some (table_in list t)
  unfolding is_missing some_table
  found_table (Own rows k levels_at entries_at) e = refl
  found_table (House number) e = refl
  found_table Missing e = untrue (sym e)

  pub missing_table : (t : NamedTable) → is_missing t ≡ true → some_table list t ≡ none
  unfolding is_missing some_table
  missing_table (Own rows k levels_at entries_at) e = untrue e
  missing_table (House number) e = untrue e
  missing_table Missing e = refl

  pub adjoined_missing : (k : ℕ) → (k ≡ 0 → ⊥) → is_missing (named_table (read_order list) k) ≡ true → adjoined_named readable.order k ≡ none
  unfolding adjoined_named
  adjoined_missing zero given e = absurd (given refl)
  adjoined_missing (suc k) given e =
      ap (map some) (table_named_lem list readable.order readable.reads (suc k) (omega arith) ∙ missing_table (named_table (read_order list) (suc k)) e)

  pub adjoined_found : (k : ℕ) → (k ≡ 0) ⊎ (is_missing (named_table (read_order list) k) ≡ false)
      → adjoined_named readable.order k ≡ some (some_table list (named_table (read_order list) k))
  unfolding adjoined_named some_table
  adjoined_found zero either = rw none_at_zero
  adjoined_found (suc k) either =
      ⊎_elim
      (λ (e : suc k ≡ 0). absurd (omega arith))
      (λ e.
      let there = found_table (named_table (read_order list) (suc k)) e in
      ap (map some) (table_named_lem list readable.order readable.reads (suc k) (omega arith) ∙ there) ∙ ap some (sym there))
      either

  -- a table that is named, or none, can be read and is not too wide
  pub named_known : (k : ℕ) → Legible list (named_table (read_order list) k) × (columns (table_in list (named_table (read_order list) k)) ≤ 128)
  unfolding Legible table_in
  named_known zero = rw none_at_zero (tt, omega arith)
  named_known (suc k) =
      let positive : 1 ≤ suc k = omega arith in (
        named_legible list readable.order readable.reads readable.in_range (suc k) positive,
        (named_limits list readable.order readable.reads readable.in_range (suc k) positive).small.columns_most,
      )

-- the first of some numbers that all name matrices
pub first_named : (list ds : List ℕ) → 0 < length ds → all_of (λ d. ltb 0 (matrix_at list d).rows) ds ≡ true → 0 < (matrix_at list (get_or ds 0 0)).rows
first_named list [] h e = absurd (omega arith)
first_named list (d ∷ ds) h e = ltb-true 0 (matrix_at list d).rows (left_true (ltb 0 (matrix_at list d).rows) (all_of (λ c. ltb 0 (matrix_at list c).rows) ds) e)
  where
    left_true : (a b : Bool) → (a && b) ≡ true → a ≡ true
    left_true true b g = refl
    left_true false b g = untrue g

-- ---- question 5

-- from the single answers
module _ (list : List ℕ) (at : ℕ) where
  pub matrix_missing : false ≡ all_of (λ d. ltb 0 (matrix_at list d).rows) (matrices_from list at) → None ≡ summands_of list at
  unfolding summands_of
  matrix_missing e = rw (← e) refl

  module _ (e : true ≡ all_of (λ d. ltb 0 (matrix_at list d).rows) (matrices_from list at)) where
    pub table_missing : (adjoined_from list at ≡ 0 → ⊥) → is_missing (named_table (read_order list) (adjoined_from list at)) ≡ true → None ≡ summands_of list at
    unfolding summands_of
    table_missing given missing = rw (← e, ne_eqb (adjoined_from list at) 0 given, missing) refl

    pub all_there : (adjoined_from list at ≡ 0) ⊎ (is_missing (named_table (read_order list) (adjoined_from list at)) ≡ false)
        → Some (named_table (read_order list) (adjoined_from list at)) ≡ summands_of list at
    unfolding summands_of
    all_there either =
        let k = adjoined_from list at in
        let named : (eqb k 0 || not (is_missing (named_table (read_order list) k))) ≡ true =
        ⊎_elim
        (λ given. ap (λ b. b || not (is_missing (named_table (read_order list) k))) (eq-eqb k 0 given))
        (λ found. ap (λ b. eqb k 0 || not b) found ∙ or-true (eqb k 0))
        either
        in
        rw (← e, named) refl

-- what holds where every number names what it should, and k is what the last of them names
pub record AllNamed {list : List ℕ} (readable : Readable list) (at : ℕ) (k : NamedTable) : Type 0 where
  pub matrices : matrices_named readable.order (matrices_from list at) ≡ some (matrices_at list (matrices_from list at))
  pub adjoined : adjoined_named readable.order (adjoined_from list at) ≡ some (some_table list k)
  pub each : all_of (λ d. ltb 0 (matrix_at list d).rows) (matrices_from list at) ≡ true
  pub some_matrices : 0 < length (matrices_from list at)
  pub first : 0 < (matrix_at list (get_or (matrices_from list at) 0 0)).rows
  pub legible : Legible list k
  pub narrow : columns (table_in list k) ≤ 128

module _ {list : List ℕ} (readable : Readable list) {at : ℕ} (operands : SumOperands list at) where
  abbrev ds : List ℕ
  ds = matrices_from list at

  abbrev k : ℕ
  k = adjoined_from list at

  abbrev table : NamedTable
  table = named_table (read_order list) k

  -- k is 0, or names a table
  last_there : (z m : Bool) → eqb k 0 ≡ z → is_missing table ≡ m → (z || not m) ≡ true → adjoined_named readable.order k ≡ some (some_table list table)
  last_there true m e f t = adjoined_found readable k (inl (eqb-true k 0 e))
  last_there false false e f t = adjoined_found readable k (inr f)
  last_there false true e f t = untrue t

  last_missing : (z m : Bool) → eqb k 0 ≡ z → is_missing table ≡ m → (z || not m) ≡ false → adjoined_named readable.order k ≡ none
  last_missing true m e f t = untrue (sym t)
  last_missing false false e f t = untrue (sym t)
  last_missing false true e f t = adjoined_missing readable k (eqb-false k 0 e) f

  -- each d names a matrix, or not
  each_named : (a : Bool) → all_of (λ d. ltb 0 (matrix_at list d).rows) ds ≡ a → matrices_named readable.order ds ≡ cond a (some (matrices_at list ds)) none
  each_named a e = all_named readable ds operands.numbered ∙ ap (λ b. cond b (some (matrices_at list ds)) none) e

  pub summands_named : {t : NamedTable} → Some t ≡ summands_of list at → AllNamed readable at t
  unfolding summands_of
  summands_named {t} e = tested _ _ refl refl e
    where
      tested : (a b : Bool) → all_of (λ d. ltb 0 (matrix_at list d).rows) ds ≡ a → (eqb k 0 || not (is_missing table)) ≡ b
          → Some t ≡ cond (a && b) (Some table) None → AllNamed readable at t
      tested true true each last f =
          let same : table ≡ t = cc in
          let known = subst (λ u. Legible list u × (columns (table_in list u) ≤ 128)) same (named_known readable k) in
          record {
            matrices = each_named true each;
            adjoined = last_there _ _ refl refl last ∙ ap (λ u. some (some_table list u)) same;
            each = each;
            some_matrices = numbers_many operands;
            first = first_named list ds (numbers_many operands) each;
            legible = known.0;
            narrow = known.1;
          }
      tested true false each last f = absurd (let z : ◌≡◌ {A = ℕ} 0 1 = cc in omega arith)
      tested false b each last f = absurd (let z : ◌≡◌ {A = ℕ} 0 1 = cc in omega arith)

  -- a d names no matrix, or k no table
  pub summands_missing : None ≡ summands_of list at
      → (matrices_named readable.order (matrices_from list at) ≡ none)
      ⊎ ((matrices_named readable.order (matrices_from list at) ≡ some (matrices_at list (matrices_from list at)))
      × (adjoined_named readable.order (adjoined_from list at) ≡ none))
  unfolding summands_of
  summands_missing e = tested _ _ refl refl e
    where
      tested : (a b : Bool) → all_of (λ d. ltb 0 (matrix_at list d).rows) ds ≡ a → (eqb k 0 || not (is_missing table)) ≡ b
          → None ≡ cond (a && b) (Some table) None
          → (matrices_named readable.order ds ≡ none)
          ⊎ ((matrices_named readable.order ds ≡ some (matrices_at list ds)) × (adjoined_named readable.order k ≡ none))
      tested true true each last f = absurd (let z : ◌≡◌ {A = ℕ} 0 1 = cc in omega arith)
      tested true false each last f = inr (each_named true each, last_missing _ _ refl refl last)
      tested false b each last f = inl (each_named false each)

-- ---- the questions that follow

module _ {list : List ℕ} (readable : Readable list) (at n : ℕ) (S : Table) (table levels : List ℕ) where
  later : Outcome
  later = provided (operation readable.order (SUM (matrices_from list at) (adjoined_from list at))) (StepNotAllowed n) (operate n S)

  later_is : later_in list n S 3 at ≡ later
  unfolding later_step later
  later_is = later_in_lem readable 3 at n S

  -- a number does not name what it should
  pub left_unnamed : SumOperands list at → None ≡ summands_of list at → Left (later_in list n S 3 at) table levels (Refused (StepNotAllowed n)) table levels
  unfolding later operation provided bind Left
  left_unnamed operands e =
      ⊎_elim
      (λ (unnamed : matrices_named readable.order (matrices_from list at) ≡ none). rw (later_is, unnamed) (refl, refl, refl))
      (λ named. rw (later_is, named.0, named.1) (refl, refl, refl))
      (summands_missing readable operands e)

  -- all are there
  pub left_named : {k : NamedTable} → AllNamed readable at k
      → (answer : Answer) (table' levels' : List ℕ)
      → Left (operate n S (sum (matrices_at list (matrices_from list at)) (some_table list k))) table levels answer table' levels'
      → Left (later_in list n S 3 at) table levels answer table' levels'
  unfolding later operation provided bind
  left_named named answer table' levels' left = rw (later_is, named.matrices, named.adjoined) left
