-- Questions 5 to 8 refuse no step exactly where every step may be carried out, and then the outcome is the sheet that the last step leaves.
-- Assumes nothing.
use mathlib.Core.Path.{◌≡◌, refl, ◌∙◌, ap}
use mathlib.Core.Logic.{◌↔◌}
use mathlib.Core.Bool.{Bool, true, false, cond}
use mathlib.Core.List.{List, [], ◌∷◌}
use mathlib.Core.Option.{Option, none, some, map, some-ne-none}
use Prim.Native.Nat.{ℕ, ◌+◌}
use native.Mathlib.Omega.{arith}
use lib.Dec.{T}
use Rattle.counting.specs.Table.{Table}
use Rattle.order.specs.Order.{Step, Order}
use Rattle.step_tables.specs.Sheet.{SmallEnough, small_enough}
use Rattle.step_tables.specs.Sum.{rows_of, adjoined_table}
use Rattle.step_tables.specs.Merge.{MemberFault}
use Rattle.sheets.specs.Steps.{Outcome, filled, refused, proceed, provided, unless, Operation, sum, merge, split, cross, opening, operation, fits, uneven_matrix, wrong_member, applied, sized, after_sums, operate, first_step, later_step, later_steps, all_steps}
use Rattle.sheets.specs.Fillable.{Fits, EvenMatrices, TrueSums, Opened, Carried, LaterCarried, AllCarried, later_sheets, latest, final_sheet}
use Rattle.sheets.specs.declared.answer.Refusal.{Refusal}
use Rattle.sheets.proofs.Naming.{opens_iff, does_iff}
use Rattle.step_tables.proofs.StepQuestions.{size_decides, split_decides, merge_decides, members_decide, sum_decides, cross_decides, values_decide}

-- ---- outcomes

pub refused_not_filled : {why : Refusal} {S : Table} → refused why ≡ filled S → ⊥
refused_not_filled e = let z : ◌≡◌ {A = ℕ} 0 1 = cc in omega arith

pub filled_injective : {S F : Table} → filled S ≡ filled F → S ≡ F
filled_injective e = cc

-- a test that must pass
cond_filled : (b : Bool) (x : Outcome) (why : Refusal) {F : Table} → cond b x (refused why) ≡ filled F → T b × (x ≡ filled F)
cond_filled true x why e = (tt, e)
cond_filled false x why e = absurd (refused_not_filled e)

filled_cond : (b : Bool) (x y : Outcome) → T b → cond b x y ≡ x
filled_cond true x y t = refl
filled_cond false x y t = absurd t

provided_filled : {A : Type 0} (o : Option A) (why : Refusal) (next : A → Outcome) {F : Table} → provided o why next ≡ filled F
    → (a : A) × (o ≡ some a) × (next a ≡ filled F)
unfolding provided
provided_filled none why next e = absurd (refused_not_filled e)
provided_filled (some a) why next e = (a, refl, e)

filled_provided : {A : Type 0} {o : Option A} {a : A} (why : Refusal) (next : A → Outcome) → o ≡ some a → provided o why next ≡ next a
unfolding provided
filled_provided why next e = ap (λ x. provided x why next) e

proceed_filled : (x : Outcome) (next : Table → Outcome) {F : Table} → proceed x next ≡ filled F → (S : Table) × (x ≡ filled S) × (next S ≡ filled F)
unfolding proceed
proceed_filled (filled S) next e = (S, refl, e)
proceed_filled (refused why) next e = absurd (refused_not_filled e)

filled_proceed : {x : Outcome} {S : Table} (next : Table → Outcome) → x ≡ filled S → proceed x next ≡ next S
unfolding proceed
filled_proceed next e = ap (λ y. proceed y next) e

pub unless_filled : (x : Option Refusal) (next : Outcome) {F : Table} → unless x next ≡ filled F → (x ≡ none) × (next ≡ filled F)
unfolding unless
unless_filled none next e = (refl, e)
unless_filled (some why) next e = absurd (refused_not_filled e)

pub filled_unless : {x : Option Refusal} (next : Outcome) → x ≡ none → unless x next ≡ next
unfolding unless
filled_unless next e = ap (λ y. unless y next) e

-- ---- questions 6 to 8

pub fits_decides : (f : Operation) (S : Table) → T (fits f S) ↔ Fits f S
unfolding fits Fits
fits_decides (sum Ds k) S = sum_decides Ds (adjoined_table (rows_of Ds) k) S
fits_decides (merge p cs) S = merge_decides p cs S
fits_decides (split c T) S = split_decides c T S
fits_decides (cross ds Ds k H) S = cross_decides Ds (adjoined_table (rows_of Ds) k) H S

map_none : {A B : Type 0} (f : A → B) (x : Option A) → (map f x ≡ none) ↔ (x ≡ none)
map_none f none = (λ e. refl, λ e. refl)
map_none f (some a) = (λ e. absurd (some-ne-none (f a) e), λ e. absurd (some-ne-none a e))

pub matrices_decide : (n : ℕ) (f : Operation) (S : Table) → (uneven_matrix n f S ≡ none) ↔ EvenMatrices f S
unfolding uneven_matrix EvenMatrices
matrices_decide n (sum Ds k) S = (λ e. tt, λ t. refl)
matrices_decide n (merge p cs) S = (λ e. tt, λ t. refl)
matrices_decide n (split c T) S = (λ e. tt, λ t. refl)
matrices_decide n (cross ds Ds k H) S = (
  λ e. (values_decide Ds S).0 ((map_none _ _).0 e),
  λ even. (map_none _ _).1 ((values_decide Ds S).1 even),
)

pub sums_decide : (f : Operation) (S : Table) → (wrong_member f S ≡ none) ↔ TrueSums f S
unfolding wrong_member TrueSums
sums_decide (sum Ds k) S = (λ e. tt, λ t. refl)
sums_decide (merge p cs) S = members_decide p cs S
sums_decide (split c T) S = (λ e. tt, λ t. refl)
sums_decide (cross ds Ds k H) S = (λ e. tt, λ t. refl)

sized_filled : (n : ℕ) (S : Table) {F : Table} → sized n S ≡ filled F → SmallEnough S × (S ≡ F)
unfolding sized
sized_filled n S e =
    let (t, p) = cond_filled (small_enough S) _ _ e in
    ((size_decides S).0 t, filled_injective p)

pub filled_sized : (n : ℕ) (S : Table) → SmallEnough S → sized n S ≡ filled S
unfolding sized
filled_sized n S small = filled_cond (small_enough S) _ _ ((size_decides S).1 small)

sums_filled : (n : ℕ) (next : Table) (o : Option MemberFault) {F : Table} → after_sums n next o ≡ filled F → (o ≡ none) × (sized n next ≡ filled F)
unfolding after_sums
sums_filled n next none e = (refl, e)
sums_filled n next (some fault) e = absurd (refused_not_filled e)

module _ (n : ℕ) (S : Table) (f : Operation) where
  operate_filled : {F : Table} → operate n S f ≡ filled F
      → Fits f S × EvenMatrices f S × TrueSums f S × SmallEnough (applied f S) × (applied f S ≡ F)
  unfolding operate
  operate_filled e =
      let (t, p) = cond_filled (fits f S) _ _ e in
      let (even, q) = unless_filled (uneven_matrix n f S) _ p in
      let (right, r) = sums_filled n (applied f S) (wrong_member f S) q in
      let (small, same) = sized_filled n (applied f S) r in
      ((fits_decides f S).0 t, (matrices_decide n f S).0 even, (sums_decide f S).0 right, small, same)

  filled_operate : Fits f S → EvenMatrices f S → TrueSums f S → SmallEnough (applied f S) → operate n S f ≡ filled (applied f S)
  unfolding operate after_sums
  filled_operate fitting even right small =
      filled_cond (fits f S) _ _ ((fits_decides f S).1 fitting)
      ∙ filled_unless _ ((matrices_decide n f S).1 even)
      ∙ ap (after_sums n (applied f S)) ((sums_decide f S).1 right)
      ∙ filled_sized n (applied f S) small

-- ---- the steps

module _ (o : Order) where
  pub first_carried : (step : Step) {F : Table} → first_step o step ≡ filled F → (c : Opened o step) × (c.sheet ≡ F)
  unfolding first_step
  first_carried step e =
      let (S, named, p) = provided_filled (opening o step) _ _ e in
      let (small, same) = sized_filled _ S p in
      (record { sheet = S; allowed = (opens_iff o step).0 named; small_enough = small }, same)

  carried_first : (step : Step) (c : Opened o step) → first_step o step ≡ filled c.sheet
  unfolding first_step
  carried_first step c = filled_provided _ (sized _) ((opens_iff o step).1 c.allowed) ∙ filled_sized _ c.sheet c.small_enough

  pub step_carried : (n : ℕ) (S : Table) (step : Step) {F : Table} → later_step o n S step ≡ filled F
      → (c : Carried o S step) × (applied c.doing S ≡ F)
  unfolding later_step
  step_carried n S step e =
      let (f, named, p) = provided_filled (operation o step) _ _ e in
      let (fitting, even, right, small, same) = operate_filled n S f p in
      (record { doing = f; allowed = (does_iff o step).0 named; fitting = fitting; even_matrices = even; true_sums = right; small_enough = small }, same)

  carried_step : (n : ℕ) (S : Table) (step : Step) (c : Carried o S step) → later_step o n S step ≡ filled (applied c.doing S)
  unfolding later_step
  carried_step n S step c =
      filled_provided _ (operate n S) ((does_iff o step).1 c.allowed)
      ∙ filled_operate n S c.doing c.fitting c.even_matrices c.true_sums c.small_enough

  -- the same steps on one sheet under two names
  moved : (n : ℕ) {S T F : Table} (steps : List Step) → S ≡ T → later_steps o n T steps ≡ filled F → later_steps o n S steps ≡ filled F
  moved n steps same e = ap (λ S. later_steps o n S steps) same ∙ e

  later_carried : (n : ℕ) (S : Table) (steps : List Step) {F : Table} → later_steps o n S steps ≡ filled F
      → (c : LaterCarried o S steps) × (latest S (later_sheets o S steps c) ≡ F)
  unfolding later_steps LaterCarried later_sheets
  later_carried n S [] e = (tt, filled_injective e)
  later_carried n S (step ∷ steps) e =
      let (next, now, rest) = proceed_filled (later_step o n S step) _ e in
      let (c, same) = step_carried n S step now in
      let (cs, end) = later_carried (n + 1) (applied c.doing S) steps (moved (n + 1) steps same rest) in
      ((c, cs), end)

  carried_later : (n : ℕ) (S : Table) (steps : List Step) (c : LaterCarried o S steps)
      → later_steps o n S steps ≡ filled (latest S (later_sheets o S steps c))
  unfolding later_steps LaterCarried later_sheets
  carried_later n S [] c = refl
  carried_later n S (step ∷ steps) c =
      filled_proceed _ (carried_step n S step c.0) ∙ carried_later (n + 1) (applied c.0.doing S) steps c.1

  -- filled, so every step may be carried out, and the table is the last sheet
  pub all_carried : (steps : List Step) {F : Table} → all_steps o steps ≡ filled F → (c : AllCarried o steps) × (final_sheet o steps c ≡ F)
  unfolding all_steps AllCarried final_sheet
  all_carried [] e = absurd (refused_not_filled e)
  all_carried (step ∷ steps) e =
      let (S, now, rest) = proceed_filled (first_step o step) _ e in
      let (c, same) = first_carried step now in
      let (cs, end) = later_carried _ c.sheet steps (moved _ steps same rest) in
      ((c, cs), end)

  -- every step may be carried out, so the outcome is the last sheet
  pub carried_all : (steps : List Step) (c : AllCarried o steps) → all_steps o steps ≡ filled (final_sheet o steps c)
  unfolding all_steps AllCarried final_sheet
  carried_all [] c = absurd c
  carried_all (step ∷ steps) c = filled_proceed _ (carried_first step c.0) ∙ carried_later _ c.0.sheet steps c.1
