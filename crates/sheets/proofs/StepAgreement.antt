-- Questions 6 to 8, with that of 02, K6, and the sheets that steps leave are the same for sheets and tables that agree, so the steps may be carried out on bytes.
-- Assumes nothing.
use mathlib.Core.Path.{◌≡◌, refl, ◌∙◌, ap, ap₂, subst}
use mathlib.Core.Logic.{by_cases}
use mathlib.Core.Bool.{Bool, true, false, cond, ◌&&◌}
use mathlib.Core.List.{List, map, flat_map, ◌++◌, Memᴰ}
use mathlib.Core.Option
use mathlib.Core.Option.{Option, none, some}
use Prim.Native.Nat.{ℕ, ◌+◌, ◌-◌, ◌*◌, ◌/◌, ◌%◌, ◌<◌}
use native.Mathlib.Nat.{mod-lt, div-lt_iff_lt-mul}
use native.Mathlib.Decide.{dec_lt}
use native.Mathlib.Omega.{arith}
use lib.Dec.{T, eqb, ltb}
use lib.ListN.{length, get_or, get_or-eq_default}
use Rattle.finite.specs.First.{first}
use Rattle.finite.specs.Lists.{from}
use Rattle.finite.proofs.Firsts.{first_ext}
use Rattle.galois.specs.Arithmetic.{member}
use Rattle.counting.specs.Matrix.{Matrix}
use Rattle.counting.specs.Table.{Table, columns, InRange}
use Rattle.order.specs.Order.{Step, Order}
use Rattle.step_tables.specs.Lists.{all_of, all_different}
use Rattle.step_tables.specs.Sheet.{Agree}
use Rattle.step_tables.specs.Sum.{level_sum, modulus_of, rows_of, serving, adjoined_table, SumSource, summed, adjoined, summed_with, sum_place, sum_sources, sum_levels, sum_entry, sum_value, sum_step, SumFits, sum_fits}
use Rattle.step_tables.specs.Cross.{CrossSource, of_sum, following, cross_sources, cross_levels, cross_value, cross_step, CrossFits, cross_fits, serving_fault}
use Rattle.step_tables.specs.Merge.{member_at, MemberFault, MergeSource, kept, merged, merge_place, merge_sources, merge_levels, merged_level, merge_value, merge_step, MergeFits, merge_fits, member_sum, member_fault_at, member_fault}
use Rattle.step_tables.specs.Split.{SplitSource, kept as unsplit, part, split_place, split_sources, split_levels, split_value, split_step, SplitFits, split_fits}
use Rattle.sheets.specs.Steps.{Outcome, filled, refused, provided, unless, Operation, sum, merge, split, cross, operation, fits, value_refusal, uneven_matrix, wrong_member, applied, sized, after_sums, operate, later_step}
use Rattle.sheets.specs.Fillable.{Fits}
use Rattle.sheets.specs.declared.answer.Refusal.{Refusal}
use Rattle.sheets.specs.declared.answer.Refusal.TheVariants.{StepNotAllowed, TooLarge}
use Rattle.step_tables.proofs.Lists.{mem_get_d}
use Rattle.sheets.proofs.Carried.{fits_decides}
use Rattle.step_tables.proofs.Agreement.{agree_refl, agree_columns, agree_levels, agree_size, sources_agree}
use Rattle.step_tables.proofs.Cross.{CrossComes, cross_sources_come}
use Rattle.step_tables.proofs.Merge.{sources_stay}
use Rattle.step_tables.proofs.Split.{sources_stay as parts_stay}
use Rattle.step_tables.proofs.Sum.{Comes, sources_come, factor_positive}

-- ---- MERGE

-- every member is a column of the sheet
member_on_sheet : (p : ℕ) (cs : List ℕ) (S : Table) → MergeFits p cs S → (h : ℕ) → member_at cs h < columns S
member_on_sheet p cs S fits h =
    by_cases (dec_lt (h - 1) (length cs))
    (λ l. fits.on_sheet (member_at cs h) (mem_get_d cs (h - 1) 0 l))
    (λ n.
    let first : get_or cs 0 0 < columns S = fits.on_sheet (get_or cs 0 0) (mem_get_d cs 0 0 (omega (arith, fits.many))) in
    rw (get_or-eq_default cs 0 {n = h - 1} (omega arith)) (omega arith))

module _ (p : ℕ) (cs : List ℕ) {A B : Table} (alike : Agree A B) where
  merge_fits_lem : merge_fits p cs A ≡ merge_fits p cs B
  unfolding merge_fits
  merge_fits_lem =
      ap
      (λ l. eqb (length cs) (p + 1) && all_of (λ c. ltb c (length l)) cs && all_different cs && all_of (λ c. eqb (get_or l c 0) p) cs)
      alike.same_levels

  module _ (fits : MergeFits p cs A) where
    member_cell : (r h : ℕ) → r < A.runs → A.cell r (member_at cs h) ≡ B.cell r (member_at cs h)
    member_cell r h l = alike.same_cells r (member_at cs h) l (member_on_sheet p cs A fits h)

    member_sum_lem : (r h : ℕ) → r < A.runs → member_sum p cs A r h ≡ member_sum p cs B r h
    unfolding member_sum
    member_sum_lem r h l = ap₂ (λ x y. (x + (h - 2) * y) % p) (member_cell r 1 l) (member_cell r 2 l)

    merge_fault : member_fault p cs A ≡ member_fault p cs B
    unfolding member_fault member_fault_at
    merge_fault =
        first_ext A.runs (λ r l. first_ext (p - 1) (λ k m.
        ap₂ (λ x y. cond (eqb x y) none (some (record { run = r; member_number = k + 3 }))) (member_cell r (k + 3) l) (member_sum_lem r (k + 3) l)))
        ∙ ap (λ n. first n (λ r. first (p - 1) (λ k. member_fault_at p cs B r (k + 3)))) alike.same_runs

    merge_level : (a : MergeSource) → merge_levels p A a ≡ merge_levels p B a
    unfolding merge_levels
    merge_level (kept q) = agree_levels alike q
    merge_level merged = refl

    merge_value_lem : (r : ℕ) (a : MergeSource) → r < A.runs → Memᴰ a (merge_sources cs A) → merge_value p cs A r a ≡ merge_value p cs B r a
    unfolding merge_value merged_level
    merge_value_lem r (kept q) h m = alike.same_cells r q h (sources_stay p cs A (kept q) m).0
    merge_value_lem r merged h m = ap₂ (λ x y. p * x + y) (member_cell r 1 h) (member_cell r 2 h)

    merge_agrees : Agree (merge_step p cs A) (merge_step p cs B)
    unfolding merge_step merge_sources
    merge_agrees =
        sources_agree
        alike.same_runs
        (ap (λ n. flat_map (merge_place cs) (from 0 n)) (agree_columns alike))
        (λ a m. merge_level a)
        merge_value_lem

-- ---- SPLIT

module _ (c : ℕ) {K L A B : Table} (parts : Agree K L) (alike : Agree A B) where
  split_fits_lem : split_fits c K A ≡ split_fits c L B
  unfolding split_fits
  split_fits_lem = ap₂ (λ n l. ltb c (length l) && eqb n (get_or l c 0)) parts.same_runs alike.same_levels

  split_level : (a : SplitSource) → split_levels K A a ≡ split_levels L B a
  unfolding split_levels
  split_level (unsplit q) = agree_levels alike q
  split_level (part d) = agree_levels parts d

  module _ (fits : SplitFits c K A) (range : InRange A) where
    split_value_lem : (r : ℕ) (a : SplitSource) → r < A.runs → Memᴰ a (split_sources c K A) → split_value c K A r a ≡ split_value c L B r a
    unfolding split_value InRange
    split_value_lem r (unsplit q) h m = alike.same_cells r q h (parts_stay c K A (unsplit q) m).0
    split_value_lem r (part d) h m =
        parts.same_cells (A.cell r c) d (rw fits.as_many (range r c h fits.on_sheet)) (parts_stay c K A (part d) m)
        ∙ ap (λ x. L.cell x d) (alike.same_cells r c h fits.on_sheet)

    split_agrees : Agree (split_step c K A) (split_step c L B)
    unfolding split_step split_sources
    split_agrees =
        sources_agree
        alike.same_runs
        (ap₂ (λ n m. flat_map (split_place c n) (from 0 m)) (agree_columns parts) (agree_columns alike))
        (λ a m. split_level a)
        split_value_lem

-- ---- SUM

module _ (Ds : List Matrix) {K L A B : Table} (adjoining : Agree K L) (alike : Agree A B) where
  sum_fits_lem : sum_fits Ds K A ≡ sum_fits Ds L B
  unfolding sum_fits
  sum_fits_lem =
      ap₂
      (λ n l.
      all_of (λ D. eqb D.rows (rows_of Ds)) Ds
      && all_different (map modulus_of Ds)
      && all_of (λ s. member s (map modulus_of Ds)) l
      && eqb n (rows_of Ds))
      adjoining.same_runs
      alike.same_levels

  sum_sources_lem : sum_sources Ds K A ≡ sum_sources Ds L B
  unfolding sum_sources sum_place
  sum_sources_lem =
      ap₂
      (λ l n. flat_map (λ j. summed_with j (serving Ds (get_or l j 0))) (from 0 (length l)) ++ map adjoined (from 0 n))
      alike.same_levels
      (agree_columns adjoining)

  sum_level : (a : SumSource) → sum_levels K a ≡ sum_levels L a
  unfolding sum_levels
  sum_level (summed j D c) = refl
  sum_level (adjoined c) = agree_levels adjoining c

  module _ (fits : SumFits Ds K A) where
    sum_entry_lem : (i y : ℕ) (a : SumSource) → i < A.runs → y < rows_of Ds → Comes Ds K A a → sum_entry level_sum K A i y a ≡ sum_entry level_sum L B i y a
    unfolding sum_entry
    sum_entry_lem i y (summed j D c) h k comes = ap (λ x. level_sum D.modulus x (D.entry y c)) (alike.same_cells i j h comes.0)
    sum_entry_lem i y (adjoined c) h k comes = adjoining.same_cells y c (rw fits.adjoined_runs k) comes

    sum_value_lem : (r : ℕ) (a : SumSource) → r < A.runs * rows_of Ds → Comes Ds K A a
        → sum_value level_sum (rows_of Ds) K A r a ≡ sum_value level_sum (rows_of Ds) L B r a
    unfolding sum_value
    sum_value_lem r a h comes =
        let positive : 0 < rows_of Ds = factor_positive A.runs (rows_of Ds) h in
        sum_entry_lem (r / rows_of Ds) (r % rows_of Ds) a ((div-lt_iff_lt-mul positive).1 h) (mod-lt r positive) comes

    sum_agrees : Agree (sum_step level_sum Ds K A) (sum_step level_sum Ds L B)
    unfolding sum_step
    sum_agrees = sources_agree (ap (λ n. n * rows_of Ds) alike.same_runs) sum_sources_lem (λ a m. sum_level a) (λ r a h m. sum_value_lem r a h (sources_come Ds K A a m))

-- ---- CROSS

module _ (Ds : List Matrix) {K L H I A B : Table} (adjoining : Agree K L) (others : Agree H I) (alike : Agree A B) where
  cross_fits_lem : cross_fits Ds K H A ≡ cross_fits Ds L I B
  unfolding cross_fits
  cross_fits_lem = ap₂ ◌&&◌ (sum_fits_lem Ds adjoining alike) (ap₂ eqb others.same_runs alike.same_runs)

  cross_level : (a : CrossSource) → cross_levels K H a ≡ cross_levels L I a
  unfolding cross_levels
  cross_level (of_sum a) = sum_level Ds adjoining alike a
  cross_level (following c) = agree_levels others c

  module _ (fits : CrossFits Ds K H A) where
    cross_value_lem : (r : ℕ) (a : CrossSource) → r < A.runs * rows_of Ds → CrossComes Ds K H A a
        → cross_value level_sum (rows_of Ds) K H A r a ≡ cross_value level_sum (rows_of Ds) L I B r a
    unfolding cross_value
    cross_value_lem r (of_sum a) h comes = sum_value_lem Ds adjoining alike fits.as_sum r a h comes
    cross_value_lem r (following c) h comes =
        let old = (div-lt_iff_lt-mul (factor_positive A.runs (rows_of Ds) h)).1 h in
        others.same_cells (r / rows_of Ds) c (rw fits.other_runs old) comes

    cross_agrees : Agree (cross_step level_sum Ds K H A) (cross_step level_sum Ds L I B)
    unfolding cross_step cross_sources
    cross_agrees =
        sources_agree
        (ap (λ n. n * rows_of Ds) alike.same_runs)
        (ap₂ (λ xs n. map of_sum xs ++ map following (from 0 n)) (sum_sources_lem Ds adjoining alike) (agree_columns others))
        (λ a m. cross_level a)
        (λ r a h m. cross_value_lem r a h (cross_sources_come Ds K H A a m))

-- ---- any later step

-- tables to adjoin that agree, or none
pub data AgreeAdjoined : Option Table → Option Table → Type 0 where
  no_table : AgreeAdjoined none none
  tables : {K L : Table} → Agree K L → AgreeAdjoined (some K) (some L)

-- one step, with tables that agree
pub data AgreeOperation : Operation → Operation → Type 0 where
  sums : (Ds : List Matrix) {k l : Option Table} → AgreeAdjoined k l → AgreeOperation (sum Ds k) (sum Ds l)
  merges : (p : ℕ) (cs : List ℕ) → AgreeOperation (merge p cs) (merge p cs)
  splits : (c : ℕ) {K L : Table} → Agree K L → AgreeOperation (split c K) (split c L)
  crosses : (ds : List ℕ) (Ds : List Matrix) {k l : Option Table} {H I : Table} → AgreeAdjoined k l → Agree H I
      → AgreeOperation (cross ds Ds k H) (cross ds Ds l I)

agree_adjoined : (M : ℕ) {k l : Option Table} → AgreeAdjoined k l → Agree (adjoined_table M k) (adjoined_table M l)
unfolding adjoined_table
agree_adjoined M no_table = agree_refl _
agree_adjoined M (tables alike) = alike

adjoined_refl : (k : Option Table) → AgreeAdjoined k k
adjoined_refl none = no_table
adjoined_refl (some K) = tables (agree_refl K)

pub operation_refl : (f : Operation) → AgreeOperation f f
operation_refl (sum Ds k) = sums Ds (adjoined_refl k)
operation_refl (merge p cs) = merges p cs
operation_refl (split c K) = splits c (agree_refl K)
operation_refl (cross ds Ds k H) = crosses ds Ds (adjoined_refl k) (agree_refl H)

module _ {A B : Table} (alike : Agree A B) where
  -- question 6
  pub fits_agree : {f g : Operation} → AgreeOperation f g → fits f A ≡ fits g B
  unfolding fits
  fits_agree (sums Ds adjoining) = sum_fits_lem Ds (agree_adjoined (rows_of Ds) adjoining) alike
  fits_agree (merges p cs) = merge_fits_lem p cs alike
  fits_agree (splits c parts) = split_fits_lem c parts alike
  fits_agree (crosses ds Ds adjoining others) = cross_fits_lem Ds (agree_adjoined (rows_of Ds) adjoining) others alike

  -- 02, K6
  pub matrices_agree : (n : ℕ) {f g : Operation} → AgreeOperation f g → uneven_matrix n f A ≡ uneven_matrix n g B
  unfolding uneven_matrix
  matrices_agree n (sums Ds adjoining) = refl
  matrices_agree n (merges p cs) = refl
  matrices_agree n (splits c parts) = refl
  matrices_agree n (crosses ds Ds adjoining others) = ap (λ l. Option.map (value_refusal n ds) (serving_fault Ds l)) alike.same_levels

  -- question 7
  pub members_agree : {f g : Operation} → AgreeOperation f g → Fits f A → wrong_member f A ≡ wrong_member g B
  unfolding Fits wrong_member
  members_agree (sums Ds adjoining) fitting = refl
  members_agree (merges p cs) fitting = merge_fault p cs alike fitting
  members_agree (splits c parts) fitting = refl
  members_agree (crosses ds Ds adjoining others) fitting = refl

  -- the sheets that the step leaves
  pub applied_agree : {f g : Operation} → AgreeOperation f g → Fits f A → InRange A → Agree (applied f A) (applied g B)
  unfolding Fits applied
  applied_agree (sums Ds adjoining) fitting range = sum_agrees Ds (agree_adjoined (rows_of Ds) adjoining) alike fitting
  applied_agree (merges p cs) fitting range = merge_agrees p cs alike fitting
  applied_agree (splits c parts) fitting range = split_agrees c parts alike fitting range
  applied_agree (crosses ds Ds adjoining others) fitting range = cross_agrees Ds (agree_adjoined (rows_of Ds) adjoining) others alike fitting

-- ---- outcomes

-- tables that agree, or one refusal
pub data AgreeOutcome : Outcome → Outcome → Type 0 where
  both_filled : {A B : Table} → Agree A B → AgreeOutcome (filled A) (filled B)
  both_refused : (why : Refusal) → AgreeOutcome (refused why) (refused why)

branch_agree : (b : Bool) (x y u v : Outcome) → (T b → AgreeOutcome x u) → AgreeOutcome y v → AgreeOutcome (cond b x y) (cond b u v)
branch_agree true x y u v when_true when_false = when_true tt
branch_agree false x y u v when_true when_false = when_false

cond_agree : {b d : Bool} (x y u v : Outcome) → b ≡ d → (T b → AgreeOutcome x u) → AgreeOutcome y v → AgreeOutcome (cond b x y) (cond d u v)
cond_agree {b} x y u v e when_true when_false = subst (λ d. AgreeOutcome (cond b x y) (cond d u v)) e (branch_agree b x y u v when_true when_false)

pub sized_agree : (n : ℕ) {A B : Table} → Agree A B → AgreeOutcome (sized n A) (sized n B)
unfolding sized
sized_agree n {A} alike =
    cond_agree _ _ _ _ (agree_size alike) (λ t. both_filled alike)
    (subst (λ why. AgreeOutcome (refused (TooLarge n A.runs (columns A))) (refused why))
    (ap₂ (TooLarge n) alike.same_runs (agree_columns alike)) (both_refused _))

sums_agree : (n : ℕ) {A B : Table} (x : Option MemberFault) → Agree A B → AgreeOutcome (after_sums n A x) (after_sums n B x)
unfolding after_sums
sums_agree n none alike = sized_agree n alike
sums_agree n (some fault) alike = both_refused _

unless_agree : {x y : Option Refusal} {u v : Outcome} → x ≡ y → AgreeOutcome u v → AgreeOutcome (unless x u) (unless y v)
unfolding unless
unless_agree {x} {u = u} {v = v} e both = subst (λ y. AgreeOutcome (unless x u) (unless y v)) e (asked x)
  where
    asked : (z : Option Refusal) → AgreeOutcome (unless z u) (unless z v)
    asked none = both
    asked (some why) = both_refused why

-- a step on sheets that agree is refused alike, or leaves sheets that agree
pub operate_agree : (n : ℕ) {A B : Table} {f g : Operation} → Agree A B → AgreeOperation f g → InRange A → AgreeOutcome (operate n A f) (operate n B g)
unfolding operate
operate_agree n {A} {B} {f} {g} alike step range =
    cond_agree _ _ _ _ (fits_agree alike step)
    (λ t.
    let fitting = (fits_decides f A).0 t in
    unless_agree (matrices_agree alike n step)
    (subst (λ x. AgreeOutcome (after_sums n (applied f A) (wrong_member f A)) (after_sums n (applied g B) x)) (members_agree alike step fitting)
    (sums_agree n (wrong_member f A) (applied_agree alike step fitting range))))
    (both_refused _)

pub provided_agree : {X : Type 0} (x : Option X) (why : Refusal) (next next' : X → Outcome) → ((a : X) → AgreeOutcome (next a) (next' a))
    → AgreeOutcome (provided x why next) (provided x why next')
unfolding provided
provided_agree none why next next' each = both_refused why
provided_agree (some a) why next next' each = each a

-- and so is any later step of an order
pub later_agree : (o : Order) (n : ℕ) (step : Step) {A B : Table} → Agree A B → InRange A → AgreeOutcome (later_step o n A step) (later_step o n B step)
unfolding later_step
later_agree o n step alike range =
    provided_agree (operation o step) (StepNotAllowed n) _ _ (λ f. operate_agree n alike (operation_refl f) range)
