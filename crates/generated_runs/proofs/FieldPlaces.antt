-- The elements of a generator where they stand in the list, and the levels of its factors.
-- Assumes nothing.
use mathlib.Core.Path.{◌≡◌, refl, sym, ◌∙◌, ap, subst}
use mathlib.Core.List.{List}
use Prim.Native.Nat.{ℕ, zero, suc, ◌+◌, ◌-◌, ◌*◌, ◌/◌, ◌%◌, ◌^◌, ◌≤◌, ◌<◌}
use native.Mathlib.Nat.{pow-le-pow_right, le_refl, le_trans, lt_of_lt_of_le, add_assoc}
use native.Mathlib.Numerals.{add-one}
use native.Mathlib.Omega.{arith}
use lib.Arith.{digits_div, digits_mod}
use lib.ListN.{length, get_or, take, drop, length-take, length-drop}
use lib.Seq.{get_or-take, get_or-drop, length-take-le}
use Rattle.finite.specs.Digits.{digits, numeral}
use Rattle.finite.specs.Lists.{from}
use Rattle.finite.proofs.Digits.{digits_below, numeral_below}
use Rattle.finite.proofs.Fits.{place_below}
use Rattle.finite.proofs.Lists.{below_from, below_map, length_from}
use Rattle.galois.specs.Arithmetic.{field_sum, field_product}
use Rattle.galois.specs.Laws.{Field}
use Rattle.galois.specs.Combination.{combination}
use Rattle.galois.proofs.Fields.{field, size_positive}
use Rattle.galois.proofs.FieldAlgebra.{combination_below}
use Rattle.counting.specs.Generator.{generator_of, width, ElementsInRange}
use Rattle.step_tables.specs.Field.{column_elements, values}
use Rattle.step_tables.proofs.FieldCount.{values_length, values_below}
use Rattle.generated_runs.specs.FieldPlaces.{FieldStands, ColumnsIn, field_generator}
use Rattle.generated_runs.specs.LevelSums.{digit_sums, single}
use Rattle.generated_runs.specs.declared.GeneratorAt.{GeneratorAt}
use Rattle.generated_runs.proofs.FieldRuns.{level_next}
use Rattle.generated_runs.proofs.FieldSums.{value_sum, value_single}

-- the n numbers from a place on, taken as a slice
abbrev pub slice_of : List ℕ → ℕ → ℕ → List ℕ
slice_of list start n = take (start + n - start) (drop start list)

pub slice_at : (list : List ℕ) (start n i : ℕ) → i < n → get_or (slice_of list start n) i 0 ≡ get_or list (start + i) 0
slice_at list start n i h = get_or-take _ (drop start list) i 0 (omega arith) ∙ get_or-drop start list i 0

pub slice_inside : (list : List ℕ) (start n : ℕ) {i : ℕ} → i < length (slice_of list start n) → i < n
slice_inside list start n h = omega (arith, length-take (start + n - start) (drop start list))

pub slice_many : (list : List ℕ) (start n : ℕ) → start + n ≤ length list → length (slice_of list start n) ≡ n
slice_many list start n h = length-take-le _ (drop start list) (omega (arith, length-drop start list)) ∙ omega arith

-- the place of the element in row r and column c
abbrev pub element_place : GeneratorAt → ℕ → ℕ → ℕ
element_place g r c = g.entries_at + r * g.width + c

-- the tuple of a run times a column
abbrev pub column_value : List ℕ → GeneratorAt → ℕ → ℕ → ℕ
column_value list g run c =
    combination (field_sum g.s) (field_product g.s) (digits g.s g.t run) (column_elements (field_generator list g) c)

-- the values of the first i columns from `column` on, read as one number
abbrev pub level_at : List ℕ → GeneratorAt → ℕ → ℕ → ℕ → ℕ
level_at list g run column i =
    numeral g.s (values (field_sum g.s) (field_product g.s) (field_generator list g) (digits g.s g.t run) (from column i))

digit_sums_next : (s i x y : ℕ) → digit_sums s (i + 1) x y ≡ digit_sums s i (x / s) (y / s) * s + field_sum s (x % s) (y % s)
unfolding digit_sums
digit_sums_next s i x y = rw add-one

module _ {list : List ℕ} {g : GeneratorAt} (known : FieldStands list g) where
  pub element_in : (r c : ℕ) → r < g.t → c < g.width → element_place g r c < length list
  element_in r c hr hc = omega (arith, place_below hr hc (le_refl (g.t * g.width)), known.entries_in)

  element_at : (r c : ℕ) → r < g.t → c < g.width → (field_generator list g).entry r c ≡ get_or list (element_place g r c) 0
  unfolding field_generator generator_of
  element_at r c hr hc =
      rw (known.row, add_assoc)
      (get_or-take (g.t * g.width) (drop g.entries_at list) (r * g.width + c) 0 (place_below hr hc (le_refl (g.t * g.width)))
      ∙ get_or-drop g.entries_at list (r * g.width + c) 0)

  entry_below : (c : ℕ) → c < g.width → (r : ℕ) → r < g.t → (field_generator list g).entry r c < g.s
  unfolding field_generator generator_of ElementsInRange
  entry_below c hc r hr = known.elements r c hr (rw known.row hc)

  pub element_below : (r c : ℕ) → r < g.t → c < g.width → get_or list (element_place g r c) 0 < g.s
  element_below r c hr hc = rw (← element_at r c hr hc) (entry_below c hc r hr)

  positive : 0 < g.s
  positive = size_positive g.s known.size

  laws : Field g.s (field_sum g.s) (field_product g.s)
  laws = field g.s known.size

  -- ---- a tuple times a column

  value_below : (run c : ℕ) → c < g.width → column_value list g run c < g.s
  unfolding column_elements field_generator generator_of
  value_below run c h =
      combination_below laws (digits_below positive g.t run) (below_map (entry_below c h) (below_from 0 g.t (omega arith)))

  -- of a run with a single digit: the digit times the element in its row
  pub single_value : (row digit c : ℕ) → row < g.t → digit < g.s → c < g.width
      → column_value list g (single g row digit) c ≡ field_product g.s digit (get_or list (element_place g row c) 0)
  unfolding column_elements field_generator generator_of single
  single_value row digit c hr hd hc =
      let back : g.t - 1 - (g.t - 1 - row) ≡ row = omega arith in
      value_single laws (entry_below c hc) (g.t - 1 - row) (omega arith) digit hd
      ∙ ap (field_product g.s digit) (ap (λ r. (field_generator list g).entry r c) back ∙ element_at row c hr hc)

  -- of a run whose digits are those of two others, above and below a weight
  sum_value : (k : ℕ) → k ≤ g.t → (q e c : ℕ) → e < g.s ^ k → c < g.width
      → column_value list g (q * g.s ^ k + e) c ≡ field_sum g.s (column_value list g (q * g.s ^ k) c) (column_value list g e c)
  unfolding column_elements field_generator generator_of
  sum_value k h q e c he hc = value_sum laws (entry_below c hc) k h q e he

  -- ---- the levels of a factor

  pub level_below : (run column i : ℕ) → column + i ≤ g.width → level_at list g run column i < g.s ^ i
  unfolding field_generator generator_of
  level_below run column i h =
      let G = field_generator list g in
      let columns = below_from {n = width G.widths} column i (rw known.row h) in
      let each = values_below G laws known.elements (digits_below positive g.t run) columns in
      rw (values_length (field_sum g.s) (field_product g.s) G (digits g.s g.t run) (from column i), length_from) at (numeral_below each)

  -- with a column more, a level is what Horner's rule makes of it
  pub level_more : (run column i : ℕ) → level_at list g run column (i + 1) ≡ level_at list g run column i * g.s + column_value list g run (column + i)
  level_more run column i = level_next (field_sum g.s) (field_product g.s) (field_generator list g) (digits g.s g.t run) g.s column i

  -- and below 64
  pub level_small : (run : ℕ) {column count : ℕ} → ColumnsIn g column count → (i : ℕ) → i < count
      → level_at list g run column i * g.s + column_value list g run (column + i) < 64
  level_small run {column} cs i h =
      rw (← level_more run column i)
      (lt_of_lt_of_le (level_below run column (i + 1) (omega (arith, cs.within))) (le_trans (pow-le-pow_right positive (omega arith)) cs.power))

  -- the last digit of a level with a column more, and the digits before it
  last_digit : (run column i : ℕ) → column + i < g.width → level_at list g run column (i + 1) % g.s ≡ column_value list g run (column + i)
  last_digit run column i h = ap (λ v. v % g.s) (level_more run column i) ∙ digits_mod _ (value_below run (column + i) h)

  digits_before : (run column i : ℕ) → column + i < g.width → level_at list g run column (i + 1) / g.s ≡ level_at list g run column i
  digits_before run column i h = ap (λ v. v / g.s) (level_more run column i) ∙ digits_div _ (value_below run (column + i) h)

  -- the levels of such a run are the sums, digit by digit, of those of the two others
  module _ (k : ℕ) (h : k ≤ g.t) (q e : ℕ) (he : e < g.s ^ k) (column : ℕ) where
    abbrev SumAt : ℕ → Type 0
    SumAt i = level_at list g (q * g.s ^ k + e) column i ≡ digit_sums g.s i (level_at list g (q * g.s ^ k) column i) (level_at list g e column i)

    sum_none : SumAt 0
    unfolding numeral values from digit_sums
    sum_none = refl

    sum_next : (i : ℕ) → column + i < g.width → SumAt i → SumAt (i + 1)
    sum_next i inside so_far =
        level_more (q * g.s ^ k + e) column i
        ∙ rw (so_far, sum_value k h q e (column + i) he inside)
        (rw (← digits_before (q * g.s ^ k) column i inside, ← digits_before e column i inside, ← last_digit (q * g.s ^ k) column i inside, ← last_digit e column i inside)
        (sym (digit_sums_next g.s i _ _)))

    pub sum_level : (i : ℕ) → column + i ≤ g.width → SumAt i
    sum_level zero room = sum_none
    sum_level (suc i) room = subst SumAt (add-one i) (sum_next i (omega arith) (sum_level i (omega arith)))
