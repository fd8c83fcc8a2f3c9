-- The matrices of the step's list, each by its place in it, and the level counts that they serve.
-- Assumes nothing.
use mathlib.Core.Path.{◌≡◌, refl, sym, ◌∙◌, ap}
use mathlib.Core.Bool.{true}
use mathlib.Core.List.{List, [], ◌∷◌, map}
use mathlib.Core.Option.{Option, none, some, bind}
use Prim.Native.Nat.{ℕ, zero, suc, ◌+◌, ◌≤◌, ◌<◌}
use native.Mathlib.Nat.{not-suc-le-zero, le_of_suc-le-suc, lt_of_lt_of_le}
use native.Mathlib.Omega.{arith}
use lib.Dec.{T, ltb, ltb→lt}
use lib.ListN.{length, get_or, get_elem?, length-map}
use Rattle.std.specs.Prelude.{Some, None}
use Rattle.std.specs.Prelude as Prelude
use Rattle.finite.proofs.Firsts.{first_none, first_at}
use Rattle.counting.specs.Matrix.{Matrix, matrix_of}
use Rattle.order.specs.Grammar.{read_order}
use Rattle.places.specs.Places.{ingredient_at}
use Rattle.ingredients.specs.Standing.{MatrixStands}
use Rattle.step_tables.specs.Lists.{all_of}
use Rattle.step_tables.specs.Cross.{ValueFault, served_fault, serving_fault}
use Rattle.step_tables.proofs.Lists.{mem_get_d, all_of_mem}
use Rattle.layout.specs.Step.{Readable}
use Rattle.sum_bytes.specs.Summing.{matrix_place, placed_matrix, matrix_at, matrices_at}
use Rattle.sum_bytes.specs.declared.MatrixPlace.{MatrixPlace}
use Rattle.sum_bytes.proofs.Serving.{place_stands}
use Rattle.matrix_balance.proofs.Columns.{column_below}
use Rattle.matrix_balance.specs.Balance.{found_in, balance_of}
use Rattle.matrix_balance.specs.declared.UnevenColumn.{UnevenColumn}

-- ---- the matrix in a place of the step's list

-- a place of a list that is mapped
mapped_at : (f : ℕ → Matrix) (xs : List ℕ) (k : ℕ) → k < length xs → get_elem? (map f xs) k ≡ some (f (get_or xs k 0))
mapped_at f [] k h = absurd (not-suc-le-zero h)
mapped_at f (x ∷ xs) zero h = refl
mapped_at f (x ∷ xs) (suc k) h = mapped_at f xs k (le_of_suc-le-suc h)

-- each number names a matrix, which stands in the list
pub named_stands : {list : List ℕ} (ds : List ℕ) → Readable list → all_of (λ d. ltb 0 (matrix_at list d).rows) ds ≡ true
    → (q : ℕ) {m : MatrixPlace} → q < length ds → m ≡ matrix_place (ingredient_at (read_order list) (get_or ds q 0))
    → MatrixStands list m.rows m.columns m.p m.start
unfolding matrix_at placed_matrix matrix_of
named_stands {list} ds readable all q {m} h e =
    let d = get_or ds q 0 in
    let named : T (ltb 0 (matrix_place (ingredient_at (read_order list) d)).rows) = (all_of_mem (λ x. ltb 0 (matrix_at list x).rows) ds).0 (rw all tt) d (mem_get_d ds q 0 h) in
    place_stands list readable d m e (rw e (ltb→lt 0 _ named))

module _ (list ds levels : List ℕ) where
  -- what is found of the matrix in place q
  abbrev pub in_place : ℕ → Option ValueFault
  in_place q = served_fault levels q (matrix_at list (get_or ds q 0))

  asked : (q : ℕ) → q < length ds → bind (get_elem? (matrices_at list ds) q) (served_fault levels q) ≡ in_place q
  unfolding matrices_at bind
  asked q h = rw (mapped_at (matrix_at list) ds q h)

  none_uneven : ((q : ℕ) → q < length ds → in_place q ≡ none) → serving_fault (matrices_at list ds) levels ≡ none
  unfolding serving_fault matrices_at
  none_uneven e =
      let n : length (matrices_at list ds) ≡ length ds = length-map ds (matrix_at list) in
      first_none _ _ (λ q h. asked q (rw n at h) ∙ e q (rw n at h))

  -- the matrix in place q is uneven, and none before it is
  uneven_at : (q : ℕ) {fault : ValueFault} → q < length ds → ((k : ℕ) → k < q → in_place k ≡ none) → in_place q ≡ some fault
      → serving_fault (matrices_at list ds) levels ≡ some fault
  unfolding serving_fault matrices_at
  uneven_at q {fault} h before e =
      first_at _ _ q fault (rw (length-map ds (matrix_at list)) h)
      (λ k l. asked k (omega arith) ∙ before k l)
      (asked q h ∙ e)

  -- the matrix that was looked up in place q, and what was found in it
  module _ (q : ℕ) {m : MatrixPlace} (named : m ≡ matrix_place (ingredient_at (read_order list) (get_or ds q 0)))
      (r : Prelude.Option UnevenColumn) (found : (k : ℕ) → found_in k r ≡ served_fault levels k (placed_matrix list m)) where
    in_place_lem : found_in q r ≡ in_place q
    unfolding matrix_at
    in_place_lem = found q ∙ ap (λ (x : MatrixPlace). served_fault levels q (placed_matrix list x)) named

    -- a column that was found is one of at most 128
    pub column_fits : Readable list → all_of (λ d. ltb 0 (matrix_at list d).rows) ds ≡ true → q < length ds → {u : UnevenColumn} → r ≡ Some u → u.column < 128
    unfolding placed_matrix matrix_of
    column_fits readable all h is =
        let below = column_below (placed_matrix list m) q levels (sym (found q) ∙ ap (found_in q) is) in
        omega (arith, below, (named_stands ds readable all q h named).columns_limits.1)

    pub even_there : r ≡ None → in_place q ≡ none
    even_there is = sym in_place_lem ∙ ap (found_in q) is

    pub uneven_there : {u : UnevenColumn} → q < length ds → ((k : ℕ) → k < q → in_place k ≡ none) → r ≡ Some u
        → Some (record { ingredient = get_or ds q 0; column = u.column + 1; value = u.value }) ≡ balance_of ds (serving_fault (matrices_at list ds) levels)
    unfolding balance_of
    uneven_there h before is = sym (ap (balance_of ds) (uneven_at q h before (sym in_place_lem ∙ ap (found_in q) is)))

  pub all_even : {n : ℕ} → length ds ≤ n → ((k : ℕ) → k < n → in_place k ≡ none) → None ≡ balance_of ds (serving_fault (matrices_at list ds) levels)
  unfolding balance_of
  all_even h e = sym (ap (balance_of ds) (none_uneven (λ q l. e q (lt_of_lt_of_le l h))))
