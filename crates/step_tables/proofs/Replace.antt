-- Columns of a sheet give way to the columns of a table, read at a row that each run has. The next sheet is even where the sheet and the
-- table are, and each row stands in its share of the runs, together with any settings of the columns that stay.
-- Assumes nothing.
use mathlib.Core.Path.{◌≡◌, sym, ◌∙◌, ap, ap₂}
use mathlib.Core.Logic.{◌≢◌, ⊎_elim}
use mathlib.Core.Bool.{◌&&◌, and-true}
use mathlib.Core.List.Memᴰ
use mathlib.Core.List.{List, [], ◌∷◌, Memᴰ}
use Prim.Native.Nat.{ℕ, ◌+◌, ◌*◌, ◌≤◌, ◌<◌}
use native.Mathlib.Nat.{mul-one, mul_comm, mul_assoc, mul_left_comm, eq-zero-or-pos, eq_of_mul-eq-mul_left}
use native.Mathlib.Omega.{arith}
use lib.Dec.{eqb}
use lib.ListN.{length}
use Rattle.finite.specs.Sum.{count}
use Rattle.finite.proofs.Counts.{count_ext, sum_passing, count_through, share_of_none}
use Rattle.counting.specs.Table.{Table, columns, Setting, shows, times, combinations, Apart, Settings, InRange, Even}
use Rattle.step_tables.specs.Sheet.{from_sources, OrthogonalArray, AllLevels}
use Rattle.step_tables.proofs.Columns.{EvenChoices, Sources, from_array, from_levels}
use Rattle.step_tables.proofs.Separate.{Place, left, right, Differ, levels_at, cell_at, Placed, Placing, as_is, lefts, rights, length_separate, apart_separate, settings_separate, combinations_separate, shows_separate}

-- each row of T stands in its share of S's runs, together with the levels of fewer than g columns that stay
abbrev pub RowsEven : ℕ → Table → Table → (ℕ → ℕ) → List ℕ → Type 0
RowsEven g S T row gone =
    (ls : List Setting) (v : ℕ)
    → length ls < g → Settings S ls → ((c : ℕ) → Memᴰ c gone → Apart c ls) → v < T.runs
    → T.runs * combinations S ls * count S.runs (λ r. eqb (row r) v && shows S ls r) ≡ S.runs

module _ (S T : Table) (gone : List ℕ) where
  -- a column of the sheet that does not go, or a column of the table
  abbrev pub Stays : Place → Type 0
  Stays (left q) = (q < columns S) × (Memᴰ q gone → ⊥)
  Stays (right d) = d < columns T

  placed_of : (p : Place) → Stays p → Placed S T p
  placed_of (left q) s = s.0
  placed_of (right d) s = s

  gone_differs : (c : ℕ) → Memᴰ c gone → (p : Place) → Stays p → Differ (left c) p
  gone_differs c m (left q) s = λ e. s.1 (Memᴰ.cast (sym e) m)
  gone_differs c m (right d) s = tt

  -- entries stay in range
  stays_below : (row : ℕ → ℕ) → InRange S → InRange T → (r : ℕ) → r < S.runs → row r < T.runs → (p : Place) → Stays p
      → cell_at S T r (row r) p < levels_at S T p
  unfolding InRange
  stays_below row range range_table r h k (left q) s = range r q h s.0
  stays_below row range range_table r h k (right d) s = range_table (row r) d k s

  stays_levels : (Q : ℕ → Type 0) → AllLevels Q S → AllLevels Q T → (p : Place) → Stays p → Q (levels_at S T p)
  unfolding AllLevels
  stays_levels Q sheet table (left q) s = sheet q s.0
  stays_levels Q sheet table (right d) s = table d s

differ_of : (p o : Place) → p ≢ o → Differ p o
differ_of (left q) (left d) n = λ e. n (ap left e)
differ_of (left q) (right d) n = tt
differ_of (right q) (left d) n = tt
differ_of (right q) (right d) n = λ e. n (ap right e)

product_exchange : (a b c d : ℕ) → a * (b * c * d) ≡ c * (a * b * d)
product_exchange a b c d =
    ap (λ x. a * x) (mul_assoc b c d ∙ mul_left_comm b c d) ∙ mul_left_comm a c (b * d) ∙ ap (λ x. c * x) (sym (mul_assoc a b d))

-- What a step says of its sources: each has its column in the sheet or in the table, levels and entries are that column's, no two are alike,
-- and none is of a column that goes. Each run has a row of the table.
pub record Replacement (S T : Table) (row : ℕ → ℕ) (gone : List ℕ) {A : Type 0} (levels : A → ℕ) (value : ℕ → A → ℕ) (sources : List A)
    : Type 0 where
  pub place : A → Place
  pub back : Place → A
  pub round : (a : A) → back (place a) ≡ a
  pub as_many : (a : A) → levels a ≡ levels_at S T (place a)
  pub values : (r : ℕ) (a : A) → value r a ≡ cell_at S T r (row r) (place a)
  pub within : (r : ℕ) → r < S.runs → row r < T.runs
  pub given : Sources (λ a. Stays S T gone (place a)) sources

module _ {S T : Table} {row : ℕ → ℕ} {gone : List ℕ} {A : Type 0} {levels : A → ℕ} {value : ℕ → A → ℕ} {sources : List A}
    (to : Replacement S T row gone levels value sources) where
  abbrev Kept : A → Type 0
  Kept a = Stays S T gone (to.place a)

  placing : Placing S T Kept ◌≢◌ levels to.place as_is
  placing =
      record {
        placed = λ a p. placed_of S T gone (to.place a) p;
        as_many = λ a p. to.as_many a;
        below = λ a v p h. h;
        differ = λ a b n. differ_of (to.place a) (to.place b) (λ e. n (sym (to.round a) ∙ ap to.back e ∙ to.round b));
      }

  pub replaced_levels : (Q : ℕ → Type 0) → AllLevels Q S → AllLevels Q T → AllLevels Q (from_sources S.runs levels value sources)
  replaced_levels Q sheet table =
      from_levels to.given levels value S.runs Q (λ a p. rw (to.as_many a) (stays_levels S T gone Q sheet table (to.place a) p))

  module _ (g : ℕ) (sheet : OrthogonalArray g S) (table : OrthogonalArray g T) (rows : RowsEven g S T row gone) where
    -- some setting is of a column of the table
    with_table : (ls rs : List Setting) → length ls < g → length rs ≤ g → Settings S ls → Settings T rs
        → ((c : ℕ) → Memᴰ c gone → Apart c ls)
        → combinations S ls * combinations T rs * count S.runs (λ r. shows S ls r && shows T rs (row r)) ≡ S.runs
    unfolding times Even
    with_table ls rs h k s t apart = ⊎_elim without with_runs (eq-zero-or-pos S.runs)
      where
        total : ℕ
        total = count S.runs (λ r. shows S ls r && shows T rs (row r))

        without : S.runs ≡ 0 → combinations S ls * combinations T rs * total ≡ S.runs
        without = share_of_none S.runs (combinations S ls * combinations T rs) (λ r. shows S ls r && shows T rs (row r))

        shares : T.runs * combinations S ls * total ≡ S.runs * times T rs
        shares =
            ap (λ x. T.runs * combinations S ls * x) (count_through S.runs T.runs row (shows S ls) (shows T rs) to.within)
            ∙ sum_passing
            T.runs
            (T.runs * combinations S ls)
            S.runs
            (shows T rs)
            (λ v. count S.runs (λ r. eqb (row r) v && shows S ls r))
            (λ v l. rows ls v h s apart l)

        with_runs : 0 < S.runs → combinations S ls * combinations T rs * total ≡ S.runs
        with_runs pos =
            eq_of_mul-eq-mul_left
            T.runs
            (omega (arith, to.within 0 pos))
            (combinations S ls * combinations T rs * total)
            S.runs
            (product_exchange T.runs (combinations S ls) (combinations T rs) total
            ∙ ap (λ x. combinations T rs * x) shares
            ∙ mul_left_comm (combinations T rs) S.runs (times T rs)
            ∙ ap (λ x. S.runs * x) (table.even rs k t)
            ∙ mul_comm S.runs T.runs)

    -- settings of the sheet and of the table together
    both : (ls rs : List Setting) → length ls + length rs ≤ g → Settings S ls → Settings T rs
        → ((c : ℕ) → Memᴰ c gone → Apart c ls)
        → combinations S ls * combinations T rs * count S.runs (λ r. shows S ls r && shows T rs (row r)) ≡ S.runs
    unfolding shows combinations times Even
    both ls [] h s t apart =
        ap₂ ◌*◌ (mul-one (combinations S ls)) (count_ext S.runs (λ r l. and-true (shows S ls r))) ∙ sheet.even ls (omega arith) s
    both ls (x ∷ rs) h s t apart = with_table ls (x ∷ rs) (omega arith) (omega arith) s t apart

    choices_even : EvenChoices Kept ◌≢◌ levels value S.runs g
    choices_even xs h ok =
        ap₂
        ◌*◌
        (combinations_separate placing xs ok)
        (count_ext S.runs (λ r l. shows_separate placing (value r) r (row r) (λ a v p b. ap (λ x. eqb x v) (to.values r a)) xs ok))
        ∙ both
        (lefts to.place as_is xs)
        (rights to.place as_is xs)
        (rw (length_separate to.place as_is xs) h)
        (settings_separate placing xs ok).0
        (settings_separate placing xs ok).1
        (λ c m. apart_separate placing (left c) (λ a p. gone_differs S T gone c m (to.place a) p) xs ok)

    pub replaced_array : OrthogonalArray g (from_sources S.runs levels value sources)
    replaced_array =
        from_array
        to.given
        levels
        value
        S.runs
        g
        (λ r a h p.
        rw (to.values r a, to.as_many a) (stays_below S T gone row sheet.in_range table.in_range r h (to.within r h) (to.place a) p))
        choices_even
