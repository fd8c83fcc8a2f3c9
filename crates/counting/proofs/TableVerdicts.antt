-- The verdict on a table passes exactly when the table is even at strength two; otherwise it names the first failure.
-- Assumes nothing.
use mathlib.Core.Path.{◌≡◌, refl, sym, ◌∙◌, ap, subst}
use mathlib.Core.Logic.{◌↔◌, ◌≢◌, ◌⊎◌, inl, inr, by_cases, ⊎_elim}
use mathlib.Core.Bool.{and-true, and_comm}
use mathlib.Core.List.{List, [], ◌∷◌}
use mathlib.Core.Option.{Option, none, some, map, some-ne-none, map-eq-none_iff, map-eq-some_iff}
use Prim.Native.Nat.{ℕ, ◌+◌, ◌-◌, ◌*◌, ◌/◌, ◌%◌, ◌≤◌, ◌<◌, zero-le}
use native.Mathlib.Nat.{mul-zero, mul-one, one-mul, mul_comm, add-sub_cancel, le_refl, le_trans, lt_trans, lt_of_le_of_lt, lt_of_lt_of_le, ne_of_lt, not-suc-le-zero, eq-zero-or-pos, mod-lt, div-lt_iff_lt-mul, div-mul-le_self, div-add-mod'}
use native.Mathlib.Omega.{arith}
use native.Mathlib.Decide.{dec_lt}
use lib.Arith.{lt_of_le-ne, digits_lt, digits_div, digits_mod}
use lib.Dec.{eqb, lit≤}
use lib.IntN.{ℤ, pos, nat_abs}
use Rattle.std.specs.Prelude.{Result, Ok, Err}
use Rattle.finite.specs.First.{◌or_else◌}
use Rattle.finite.specs.Pairs.{ordinal}
use Rattle.finite.proofs.Counts.{count_ext, count_all}
use Rattle.finite.proofs.Firsts.{first_none, none_below, found_least, pair_none, none_pair, found_pair}
use Rattle.finite.proofs.Ordinals.{few_pairs, ordinal_most}
use Rattle.counting.specs.Table.{Table, Setting, columns, levels_of, shows, times, combinations, Apart, Settings, Even}
use Rattle.counting.specs.Verdict.{Counted, gap, column_deviation, column_fault, columns_fault, pair_at, pair_deviation, farthest_pair, named_pair, pair_fault, pairs_fault, table_finding, fault_gap, pairs_counted, verdict_of, table_verdict}
use Rattle.counting.specs.Failures.{EvenLevel, EvenPair, pair_gap, EvenColumn, EvenColumns, FirstFault, level, pair}
use Rattle.counting.specs.declared.verdict.TableFault.{TableFault}
use Rattle.counting.specs.declared.verdict.TableFault.TheVariants.{Column}
use Rattle.counting.specs.declared.verdict.TableVerdict.{TableVerdict}
use Rattle.counting.proofs.Deviations.{deviation_none, none_even, passes_none, fails_some, some_lowest, some_farthest}

-- a level of a column, and levels of two columns
abbrev one : ℕ → ℕ → List Setting
one c x = record { column = c; level = x } ∷ []

abbrev two : ℕ → ℕ → ℕ → ℕ → List Setting
two c x d y = record { column = c; level = x } ∷ record { column = d; level = y } ∷ []

-- ---- strength two, in the order in which it is checked
pub record Checked (T : Table) : Type 0 where
  pub levels : (c : ℕ) → c < columns T → EvenColumn T c
  pub pairs : (c d : ℕ) → c < d → d < columns T → EvenColumns T c d

-- the order of two settings does not matter
times_swap : (T : Table) (c x d y : ℕ) → times T (two c x d y) ≡ times T (two d y c x)
unfolding times shows
times_swap T c x d y =
    count_ext T.runs
    (λ r h. simp and-true (and_comm (eqb (T.cell r c) x) (eqb (T.cell r d) y)))

pair_either : (T : Table) → Checked T → (c d x y : ℕ) → c ≢ d → c < columns T → d < columns T → x < levels_of T c → y < levels_of T d
    → EvenPair T c d x y
unfolding EvenPair
pair_either T k c d x y apart hc hd hx hy =
    by_cases (dec_lt c d)
    (λ l. k.pairs c d l hd x y hx hy)
    (λ l. rw (mul_comm (levels_of T c) (levels_of T d), times_swap T c x d y)
    (k.pairs d c (lt_of_le-ne (omega arith) (λ e. apart (sym e))) hc y x hy hx))

pub checked_even : (T : Table) → Checked T → Even 2 T
unfolding Even EvenLevel EvenPair times shows combinations Settings Apart
checked_even T k [] few s = one-mul _ ∙ count_all T.runs (λ r h. refl)
checked_even T k (x ∷ []) few s = rw mul-one (k.levels x.column s.0 x.level s.1)
checked_even T k (x ∷ y ∷ []) few s =
    rw (mul-one (levels_of T y.column))
    (pair_either T k x.column y.column x.level y.level s.2.0 s.0 s.3.0 s.1 s.3.1)
checked_even T k (x ∷ y ∷ z ∷ xs) few s = absurd (omega arith)

pub even_checked : (T : Table) → Even 2 T → Checked T
unfolding Even EvenLevel EvenPair combinations Settings Apart
even_checked T e =
    record {
      levels = λ c hc x hx. rw (← mul-one (levels_of T c)) (e (one c x) (lit≤ tt) (hc, hx, tt, tt));
      pairs = λ c d h hd x y hx hy. rw (← mul-one (levels_of T d))
          (e (two c x d y) (lit≤ tt) (lt_trans h hd, hx, (ne_of_lt h, tt), (hd, hy, tt, tt)));
    }

-- ---- the numbers of pairs of levels
second_level : (s t v : ℕ) → v < s * t → v % t < t
second_level s t v h =
    ⊎_elim (λ (e : t ≡ 0). absurd (not-suc-le-zero (rw (e, mul-zero) at h))) (mod-lt v) (eq-zero-or-pos t)

first_level : (s t v : ℕ) → v < s * t → v / t < s
first_level s t v h = (div-lt_iff_lt-mul (lt_of_le_of_lt zero-le (second_level s t v h))).1 h

-- what holds of a pair of levels by its number holds of the pair
pair_numbered : (T : Table) (c d x y : ℕ) → y < levels_of T d
    → levels_of T c * levels_of T d * times T (pair_at T c d (x * levels_of T d + y)) ≡ T.runs
    → EvenPair T c d x y
unfolding EvenPair
pair_numbered T c d x y h e = rw (digits_div x h, digits_mod x h) at e

-- and so does its gap
gap_numbered : (T : Table) (c d x y : ℕ) → y < levels_of T d
    → gap (levels_of T c * levels_of T d) T.runs (times T (pair_at T c d (x * levels_of T d + y))) ≡ pair_gap T c d x y
unfolding pair_gap
gap_numbered T c d x y h = rw (digits_div x h, digits_mod x h)

-- ---- nothing is found exactly where every count is even
column_even : (T : Table) (c : ℕ) → column_fault T c ≡ none → EvenColumn T c
unfolding EvenLevel column_deviation
column_even T c e x h = none_even _ _ _ ((map-eq-none_iff _ _).0 e) x h

columns_even : (T : Table) (c d : ℕ) → pair_fault T c d ≡ none → EvenColumns T c d
unfolding pair_deviation
columns_even T c d e x y hx hy =
    pair_numbered T c d x y hy (none_even _ _ _ ((map-eq-none_iff _ _).0 e) _ (digits_lt hx hy))

even_column : (T : Table) (c : ℕ) → EvenColumn T c → column_fault T c ≡ none
unfolding EvenLevel column_deviation
even_column T c e = ap (map _) (deviation_none _ _ _ e)

even_columns : (T : Table) (c d : ℕ) → EvenColumns T c d → pair_fault T c d ≡ none
unfolding EvenPair pair_deviation
even_columns T c d e =
    ap (map _) (deviation_none _ _ _ (λ v h. e _ _ (first_level _ _ v h) (second_level _ _ v h)))

all_columns_even : (T : Table) → columns_fault T ≡ none → (c : ℕ) → c < columns T → EvenColumn T c
unfolding columns_fault
all_columns_even T e c h = column_even T c (none_below _ _ e c h)

none_checked : (T : Table) → columns_fault T ≡ none → pairs_fault T ≡ none → Checked T
unfolding pairs_fault
none_checked T cs ps =
    record { levels = all_columns_even T cs; pairs = λ c d h hd. columns_even T c d (none_pair _ _ ps c d h hd) }

checked_columns : (T : Table) → Checked T → columns_fault T ≡ none
unfolding columns_fault
checked_columns T k = first_none _ _ (λ c h. even_column T c (k.levels c h))

checked_pairs : (T : Table) → Checked T → pairs_fault T ≡ none
unfolding pairs_fault
checked_pairs T k = pair_none _ _ (λ c d h hd. even_columns T c d (k.pairs c d h hd))

-- ---- what is found is the first failure
lowest_level : (T : Table) (c : ℕ) (x : Counted) → c < columns T → ((d : ℕ) → d < c → EvenColumn T d)
    → column_deviation T c ≡ some x
    → FirstFault T (Column (c + 1) x.value x.times) (pos 0)
unfolding column_deviation EvenLevel
lowest_level T c x h before e =
    let l = some_lowest _ _ _ x e in
    level c x.value x.times
    (record {
      column_in = h;
      level_in = l.below;
      counted = l.counted;
      uneven = l.uneven;
      columns_before = before;
      levels_before = l.before;
    })

-- a fault, with the gap that goes with it
abbrev First : Table → TableFault → Type 0
First T fault = FirstFault T fault (fault_gap T (some fault))

first_level_fault : (T : Table) (fault : TableFault) → columns_fault T ≡ some fault → First T fault
unfolding columns_fault
first_level_fault T fault e =
    let l = found_least _ _ fault e in
    let m = (map-eq-some_iff _ _).0 l.there in
    subst (First T) m.2
    (lowest_level T l.place m.0 l.below (λ d h. column_even T d (l.before d h)) m.1)

-- columns are named from 1
pub named_gap : (T : Table) (c d v : ℕ)
    → fault_gap T (some (named_pair T c d v)) ≡ gap (levels_of T c * levels_of T d) T.runs (times T (pair_at T c d v))
named_gap T c d v = rw (add-sub_cancel c 1, add-sub_cancel d 1)

-- and so is their place
pub named_place : (T : Table) (c d v : ℕ) → pairs_counted (columns T) (Err (named_pair T c d v)) ≡ ordinal (columns T) c d
named_place T c d v = rw (add-sub_cancel c 1, add-sub_cancel d 1)

farthest_pair_lem : (T : Table) (c d : ℕ) (x : Counted) → c < d → d < columns T
    → ((b : ℕ) → b < columns T → EvenColumn T b)
    → ((a b : ℕ) → a < c → a < b → b < columns T → EvenColumns T a b)
    → ((b : ℕ) → c < b → b < d → EvenColumns T c b)
    → pair_deviation T c d ≡ some x
    → First T (named_pair T c d (farthest_pair T c d))
unfolding pair_deviation farthest_pair EvenPair pair_gap
farthest_pair_lem T c d x h hd cs firsts seconds e =
    let f = some_farthest _ _ _ x e in
    let w = farthest_pair T c d in
    let named = pair_gap T c d (w / levels_of T d) (w % levels_of T d) in
    rw (named_gap T c d w)
    (pair c d (w / levels_of T d) (w % levels_of T d) (times T (pair_at T c d w))
    (record {
      ordered = h;
      second_in = hd;
      first_level_in = first_level _ _ w f.below;
      second_level_in = second_level _ _ w f.below;
      counted = refl;
      uneven = f.uneven;
      all_columns = cs;
      firsts_before = firsts;
      seconds_before = seconds;
      none_farther = λ u v hu hv. subst (λ g. nat_abs g ≤ nat_abs named) (gap_numbered T c d u v hv) (f.none_farther _ (digits_lt hu hv));
      first_levels_before = λ u v hu hv. subst (λ g. nat_abs g < nat_abs named) (gap_numbered T c d u v hv)
          (f.before _ (lt_of_lt_of_le (digits_lt hu hv) (div-mul-le_self w _)));
      second_levels_before = λ v hv. subst (λ g. nat_abs g < nat_abs named) (gap_numbered T c d (w / levels_of T d) v (lt_trans hv (second_level _ _ w f.below)))
          (f.before (w / levels_of T d * levels_of T d + v) (omega (arith, div-add-mod' w (levels_of T d))));
    }))

first_pair_fault : (T : Table) (fault : TableFault) → columns_fault T ≡ none → pairs_fault T ≡ some fault → First T fault
unfolding pairs_fault
first_pair_fault T fault n e =
    let l = found_pair _ _ fault e in
    let m = (map-eq-some_iff _ _).0 l.there in
    subst (First T) m.2
    (farthest_pair_lem T l.one l.other m.0 l.ordered l.below (all_columns_even T n)
    (λ a b h g k. columns_even T a b (l.earlier a b h g k))
    (λ b g h. columns_even T l.one b (l.nearer b g h))
    m.1)

-- ---- the verdict
level_verdict : (T : Table) (fault : TableFault) → columns_fault T ≡ some fault
    → record { finding = Err fault; gap = pos 0; pairs = 0 } ≡ verdict_of T (some fault)
unfolding columns_fault
level_verdict T fault e =
    let l = found_least _ _ fault e in
    let m = (map-eq-some_iff (λ (x : Counted). Column (l.place + 1) x.value x.times) (column_deviation T l.place)).0 l.there in
    subst (λ f. record { finding = Err f; gap = pos 0; pairs = 0 } ≡ verdict_of T (some f)) m.2 refl

pub verdict_column : (T : Table) (fault : TableFault) → columns_fault T ≡ some fault
    → record { finding = Err fault; gap = pos 0; pairs = 0 } ≡ table_verdict T
unfolding table_verdict
verdict_column T fault e = rw e (level_verdict T fault e)

pub verdict_pairs : (T : Table) → columns_fault T ≡ none → verdict_of T (pairs_fault T) ≡ table_verdict T
unfolding table_verdict
verdict_pairs T e = rw e

or_else_none : {A : Type 0} (a b : Option A) → a or_else b ≡ none → (a ≡ none) × (b ≡ none)
or_else_none none b e = (refl, e)
or_else_none (some x) b e = absurd (some-ne-none x e)

or_else_some : {A : Type 0} (a b : Option A) (x : A) → a or_else b ≡ some x → (a ≡ some x) ⊎ ((a ≡ none) × (b ≡ some x))
or_else_some none b x e = inr (refl, e)
or_else_some (some y) b x e = inl e

verdict_is : (T : Table) → verdict_of T (columns_fault T or_else pairs_fault T) ≡ table_verdict T
unfolding table_verdict
verdict_is T = refl

verdict_finding : (T : Table) → table_finding (columns_fault T or_else pairs_fault T) ≡ (table_verdict T).finding
verdict_finding T = ap (λ (v : TableVerdict). v.finding) (verdict_is T)

verdict_gap : (T : Table) → fault_gap T (columns_fault T or_else pairs_fault T) ≡ (table_verdict T).gap
verdict_gap T = ap (λ (v : TableVerdict). v.gap) (verdict_is T)

-- A table passes exactly when it is even at strength two.
pub table_passes : (T : Table) → ((table_verdict T).finding ≡ Ok tt) ↔ Even 2 T
table_passes T = (to, from)
  where
    to : (table_verdict T).finding ≡ Ok tt → Even 2 T
    to e =
        let n = or_else_none _ _ (passes_none _ (sym (verdict_finding T ∙ e))) in
        checked_even T (none_checked T n.0 n.1)

    from : Even 2 T → (table_verdict T).finding ≡ Ok tt
    from e =
        let k = even_checked T e in
        sym (verdict_finding T) ∙ rw (checked_columns T k, checked_pairs T k)

-- After a pass the gap is 0.
pub passes_gap : (T : Table) → (table_verdict T).finding ≡ Ok tt → (table_verdict T).gap ≡ pos 0
passes_gap T e = sym (verdict_gap T) ∙ ap (fault_gap T) (passes_none (columns_fault T or_else pairs_fault T) (sym (verdict_finding T ∙ e)))

-- What a table's verdict names fails, and nothing before it does; of the first two uneven columns it is the pair that is farthest off. The verdict's gap goes
-- with it.
pub table_fails : (T : Table) (fault : TableFault) → (table_verdict T).finding ≡ Err fault → FirstFault T fault (table_verdict T).gap
table_fails T fault e =
    let found = fails_some _ fault (sym (verdict_finding T ∙ e)) in
    subst (FirstFault T fault) (ap (fault_gap T) (sym found) ∙ verdict_gap T)
    (⊎_elim (first_level_fault T fault) (λ p. first_pair_fault T fault p.0 p.1) (or_else_some _ _ fault found))

-- How many pairs of columns were counted goes with what is found (02, K8).
pub verdict_counted : (T : Table) → (table_verdict T).pairs ≡ pairs_counted (columns T) (table_verdict T).finding
unfolding table_verdict
verdict_counted T = refl

fault_within : (T : Table) (fault : TableFault) (g : ℤ) → FirstFault T fault g → pairs_counted (columns T) (Err fault) ≤ columns T * (columns T - 1) / 2
fault_within T _ _ (level c x n f) = zero-le
fault_within T _ _ (pair c d x y n f) = rw (add-sub_cancel c 1, add-sub_cancel d 1) (ordinal_most (columns T) c d f.ordered f.second_in)

finding_within : (T : Table) (found : Result (Unit {0}) TableFault) → (table_verdict T).finding ≡ found → pairs_counted (columns T) found ≤ columns T * (columns T - 1) / 2
finding_within T (Ok tt) e = le_refl _
finding_within T (Err fault) e = fault_within T fault (table_verdict T).gap (table_fails T fault e)

-- Of up to 128 columns they are never more than 8,128 (02, K8).
pub counted_most : (T : Table) → columns T ≤ 128 → (table_verdict T).pairs ≤ 8128
counted_most T few = rw (verdict_counted T) (le_trans (finding_within T (table_verdict T).finding refl) (few_pairs few))
