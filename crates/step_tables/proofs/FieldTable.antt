-- The table of a generator of strength g is an orthogonal array of strength g, with every entry in its range. Settings of different factors
-- ask one list of values of the factors' columns, which are independent, and `count_values` counts the runs with these values.
-- Assumes nothing.
use mathlib.Core.Path.{◌≡◌, refl, sym, ◌∙◌, ap, ap₂}
use mathlib.Core.Logic.{⊎_elim}
use mathlib.Core.Bool.{◌&&◌}
use mathlib.Core.List.Memᴰ
use mathlib.Core.List.{List, [], ◌∷◌, ◌++◌, map, Memᴰ}
use Prim.Native.Nat.{ℕ, ◌+◌, ◌*◌, ◌^◌, ◌<◌}
use native.Mathlib.Nat.{pow-zero}
use lib.ListN.{length, get_or, length-map, length-append}
use lib.Pow.{pow-add}
use Rattle.finite.specs.Sum.{sum}
use Rattle.finite.specs.Digits.{digits}
use Rattle.finite.proofs.Counts.{count_ext}
use Rattle.finite.proofs.Lists.{Below, none, more, each_below, below_append, length_from, get_d_map, same, same_append, part_below}
use Rattle.finite.proofs.Digits.{digits_length, digits_below, numeral_below, numeral_test}
use Rattle.galois.specs.Laws.{Field}
use Rattle.galois.proofs.FieldAlgebra.{zero_below}
use Rattle.counting.specs.Generator.{Generator, ElementsInRange, factors, width, factor_columns, columns_of, Independent}
use Rattle.counting.specs.Table.{Table, columns, levels_of, Setting, shows, times as times_in, combinations, Apart, Settings, InRange, Even}
use Rattle.step_tables.specs.Lists.{Distinct}
use Rattle.step_tables.specs.Field.{values, field_table}
use Rattle.step_tables.specs.Sheet.{OrthogonalArray}
use Rattle.step_tables.proofs.FieldCount.{values_length, values_append, values_below, count_values}
use Rattle.step_tables.proofs.FieldIndependent.{columns_below, independent_factors}

abbrev setting_columns : List Setting → List ℕ
setting_columns xs = map (λ x. x.column) xs

apart_absent : {c : ℕ} (xs : List Setting) → Apart c xs → Memᴰ c (setting_columns xs) → ⊥
unfolding Apart
apart_absent [] a m = Memᴰ.not-nil m
apart_absent (x ∷ xs) a m = ⊎_elim a.0 (apart_absent xs a.1) (Memᴰ.cases_cons m)

factor_columns_length : (us : List ℕ) (i : ℕ) → length (factor_columns us i) ≡ get_or us i 0
unfolding factor_columns
factor_columns_length us i = length_from (sum i (λ k. get_or us k 0)) (get_or us i 0)

module _ (◌⊕◌ ◌⊗◌ : ℕ → ℕ → ℕ) (G : Generator) where
  open G use {size as s, coordinates as t, widths as us}

  abbrev table : Table
  table = field_table ◌⊕◌ ◌⊗◌ G

  -- ---- the shape

  pub field_runs : table.runs ≡ s ^ t
  unfolding field_table
  field_runs = refl

  pub field_columns : columns table ≡ factors G
  unfolding field_table
  field_columns = length-map us _

  pub field_levels : {i : ℕ} → i < factors G → levels_of table i ≡ s ^ get_or us i 0
  unfolding field_table
  field_levels h = get_d_map (λ u. s ^ u) us h

  -- ---- settings

  -- settings of factors, in their range
  data Chosen : List Setting → Type 0 where
    no_settings : Chosen []
    setting : {x : Setting} {xs : List Setting} → x.column < factors G → x.level < s ^ get_or us x.column 0 → Chosen xs → Chosen (x ∷ xs)

  chosen : (xs : List Setting) → Settings table xs → Chosen xs
  unfolding Settings
  chosen [] h = no_settings
  chosen (x ∷ xs) h =
      let c = rw field_columns at h.0 in
      setting c (rw (field_levels c) at h.1) (chosen xs h.3)

  distinct : (xs : List Setting) → Settings table xs → Distinct (setting_columns xs)
  unfolding Settings
  distinct [] h = tt
  distinct (x ∷ xs) h = (apart_absent xs h.2, distinct xs h.3)

  chosen_below : {xs : List Setting} → Chosen xs → Below (factors G) (setting_columns xs)
  chosen_below no_settings = none
  chosen_below (setting h l c) = more h (chosen_below c)

  -- the columns of the settings' factors
  abbrev chosen_columns : List Setting → List ℕ
  chosen_columns xs = columns_of us (setting_columns xs)

  -- the values that settings ask of these columns
  abbrev wanted : List Setting → List ℕ
  wanted [] = []
  wanted (x ∷ xs) = digits s (get_or us x.column 0) x.level ++ wanted xs

  wanted_length : (xs : List Setting) → length (wanted xs) ≡ length (chosen_columns xs)
  unfolding columns_of
  wanted_length [] = refl
  wanted_length (x ∷ xs) =
      let block = factor_columns us x.column in
      let asked = digits s (get_or us x.column 0) x.level in
      length-append asked (wanted xs)
      ∙ ap₂ ◌+◌ (digits_length s _ x.level ∙ sym (factor_columns_length us x.column)) (wanted_length xs)
      ∙ sym (length-append block (chosen_columns xs))

  field_combinations : {xs : List Setting} → Chosen xs → combinations table xs ≡ s ^ length (chosen_columns xs)
  unfolding combinations columns_of
  field_combinations no_settings = sym (pow-zero s)
  field_combinations (setting {x} {xs} h l c) =
      let block = factor_columns us x.column in
      ap₂ ◌*◌ (field_levels h ∙ ap (λ n. s ^ n) (sym (factor_columns_length us x.column))) (field_combinations c)
      ∙ sym (pow-add s (length block) (length (chosen_columns xs)))
      ∙ ap (λ n. s ^ n) (sym (length-append block (chosen_columns xs)))

  module _ (F : Field s ◌⊕◌ ◌⊗◌) (entries : ElementsInRange G) where
    wanted_below : (xs : List Setting) → Below s (wanted xs)
    wanted_below [] = none
    wanted_below (x ∷ xs) = below_append (digits_below (zero_below F) (get_or us x.column 0) x.level) (wanted_below xs)

    -- the values of run r in factor i
    abbrev factor_values : ℕ → ℕ → List ℕ
    factor_values r i = values ◌⊕◌ ◌⊗◌ G (digits s t r) (factor_columns us i)

    factor_values_below : {i : ℕ} (r : ℕ) → i < factors G → Below s (factor_values r i)
    unfolding width factor_columns
    factor_values_below r h = values_below G F entries (digits_below (zero_below F) t r) (part_below us h)

    factor_values_length : (r i : ℕ) → length (factor_values r i) ≡ get_or us i 0
    factor_values_length r i = values_length ◌⊕◌ ◌⊗◌ G _ (factor_columns us i) ∙ factor_columns_length us i

    -- a run shows the settings where its values are those wanted
    shows_wanted : {xs : List Setting} (r : ℕ) → Chosen xs
        → shows table xs r ≡ same (values ◌⊕◌ ◌⊗◌ G (digits s t r) (chosen_columns xs)) (wanted xs)
    unfolding shows columns_of values same field_table
    shows_wanted r no_settings = refl
    shows_wanted r (setting {x} {xs} h l c) =
        let i = x.column in
        let asked = digits s (get_or us i 0) x.level in
        let size = factor_values_length r i in
        ap₂ ◌&&◌ (numeral_test (zero_below F) (factor_values_below r h) size l) (shows_wanted r c)
        ∙ sym (same_append (factor_values r i) asked _ (wanted xs) (size ∙ sym (digits_length s (get_or us i 0) x.level)))
        ∙ ap (λ v. same v (asked ++ wanted xs)) (sym (values_append ◌⊕◌ ◌⊗◌ G _ (factor_columns us i) (chosen_columns xs)))

    -- ---- the theorems

    -- every entry is one of its column's levels
    pub field_in_range : InRange table
    unfolding InRange field_table
    field_in_range r i hr hi =
        let h = rw field_columns at hi in
        rw (field_levels h, ← factor_values_length r i) (numeral_below (factor_values_below r h))

    -- the levels of any g factors, or fewer, stand together equally often
    pub field_even : (g : ℕ) → Independent ◌⊕◌ ◌⊗◌ g G → Even g table
    unfolding Even times_in field_table
    field_even g independent xs h settings =
        let c = chosen xs settings in
        let few = rw (← length-map xs (λ x. x.column)) at h in
        let columns_independent = independent_factors G F entries g independent (chosen_below c) (distinct xs settings) few in
        ap₂ ◌*◌ (field_combinations c) (count_ext (s ^ t) (λ r l. shows_wanted r c))
        ∙ count_values G F entries (chosen_columns xs) (wanted xs)
        (each_below (columns_below us (chosen_below c))) (each_below (wanted_below xs)) (wanted_length xs) columns_independent

    -- FIELD leaves an orthogonal array of the generator's strength
    pub field_leaves : (g : ℕ) → Independent ◌⊕◌ ◌⊗◌ g G → OrthogonalArray g table
    field_leaves g independent = record { even = field_even g independent; in_range = field_in_range }
