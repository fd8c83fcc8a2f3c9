-- An outcome that is a refusal has its cause: the first No, with every question before it answered Yes.
-- Assumes nothing.
use mathlib.Core.Path.{◌≡◌, refl, sym, ◌∙◌, ap, subst}
use mathlib.Core.Logic.{inl, inr}
use mathlib.Core.Bool.{Bool, true, false, cond}
use mathlib.Core.List.{List, [], ◌∷◌, ◌++◌}
use mathlib.Core.Option.{Option, none, some, map, map-eq-some_iff, some-injective, none-ne-some}
use Prim.Native.Nat.{ℕ, ◌+◌, ◌≤◌, ◌<◌}
use native.Mathlib.Omega.{arith}
use lib.Dec.{T}
use lib.ListN.{length, length-append}
use lib.Seq.{append_snoc}
use Rattle.std.specs.Prelude.{Result, Ok, Err}
use Rattle.finite.specs.First.{◌or_else◌}
use Rattle.counting.specs.Table.{Table, table_of, columns}
use Rattle.counting.specs.Matrix.{matrix_of}
use Rattle.counting.specs.Generator.{generator_of}
use Rattle.counting.specs.Verdict.{table_verdict, matrix_verdict}
use Rattle.counting.specs.GeneratorVerdict.{generator_verdict}
use Rattle.counting.specs.declared.verdict.DependenceFault.{DependenceFault}
use Rattle.counting.specs.declared.verdict.DifferenceFault.{DifferenceFault}
use Rattle.counting.specs.declared.verdict.TableFault.TheVariants.{Column, Pair}
use Rattle.counting.proofs.TableVerdicts.{table_fails}
use Rattle.counting.proofs.MatrixVerdicts.{matrix_fails}
use Rattle.counting.proofs.GeneratorVerdicts.{generator_fails}
use Rattle.counting.specs.declared.verdict.TableFault.{TableFault}
use Rattle.order.specs.Order.{Ingredient, table, matrix, generator, Step, Order, All, IngredientLimits}
use Rattle.order.specs.Reader.{Parsed, value, refused as unread}
use Rattle.order.specs.Grammar.{read_order, Reads}
use Rattle.order.specs.Range.{range_of}
use Rattle.order.specs.declared.RangeFault.{RangeFault}
use Rattle.order.specs.declared.RangeFault.TheVariants.{OutOfRange, Unread}
use Rattle.order.proofs.OrderLaw.{reads_iff}
use Rattle.order.proofs.InRange.{range_iff}
use Rattle.order_causes.proofs.Unreadable.{unreadable}
use Rattle.order_causes.proofs.OutOfRange.{out_of_range}
use Rattle.sheets.specs.Buffers.{Lengths, Suffices}
use Rattle.step_tables.specs.Sheet.{small_enough}
use Rattle.step_tables.specs.Cross.{ValueFault, serving_fault}
use Rattle.step_tables.specs.Merge.{MemberFault}
use Rattle.sheets.specs.Steps.{Outcome, filled, refused, proceed, provided, Operation, sum, merge, split, cross, opening, operation, fits, value_refusal, uneven_matrix, wrong_member, applied, sized, after_sums, operate, first_step, later_step, later_steps, all_steps}
use Rattle.sheets.specs.Outcome.{range_refusal, table_refusal, matrix_refusal, generator_refusal, ingredient_refusal, ingredients_refusal, unless, read_outcome, outcome}
use Rattle.sheets.specs.Naming.{Does}
use Rattle.sheets.specs.Fillable.{MeetsDefinition, Fits, EvenMatrices, Carried, LaterCarried, AllCarried, later_sheets, latest, final_sheet}
use Rattle.sheets.specs.declared.answer.Refusal.{Refusal}
use Rattle.sheets.specs.declared.answer.Refusal.TheVariants.{UnevenLevel, UnevenPair, UnevenDifference, Dependent, StepNotAllowed, PartsDoNotFit, NotTheSum, TooLarge, UnevenValue}
use Rattle.sheets.proofs.Naming.{opens_iff, does_iff}
use Rattle.step_tables.proofs.StepQuestions.{size_decides, fault_lowest, fault_first}
use Rattle.sheets.proofs.OrderQuestions.{reads_whole, ingredient_decides, ingredients_decide}
use Rattle.sheets.proofs.Carried.{refused_not_filled, first_carried, step_carried, fits_decides, matrices_decide, sums_decide}
use Rattle.sheets.proofs.Filled.{outcome_read, asked}
use Rattle.causes.specs.Causes.{ReachesRange, ReachesPassing, ReachesSteps, ReachesIngredient, TableFails, MatrixFails, GeneratorFails, ReachesFirst, ReachesLater, NotAllowed, NotFitting, UnevenMatrix, NoSum, Oversized, SheetTooLarge, Cause}

same_refusal : {why other : Refusal} → refused why ≡ refused other → why ≡ other
same_refusal e = cc

-- ---- question 4

-- what question 4 finds wrong with an order's ingredients
data Fault (o : Order) : Refusal → Type 0 where
  uneven_level : (i c x times : ℕ) → TableFails o i (Column c x times) → Fault o (UnevenLevel i c x times)
  uneven_pair : (i c d x y times : ℕ) → TableFails o i (Pair c d x y times) → Fault o (UnevenPair i c d x y times)
  uneven_difference : (i : ℕ) (f : DifferenceFault) → MatrixFails o i f → Fault o (UnevenDifference i f.first f.second f.difference f.times)
  dependent : (i : ℕ) (f : DependenceFault) → GeneratorFails o i f → Fault o (Dependent i f.first f.second f.coefficients)

module _ (o : Order) (i : ℕ) {why : Refusal} where
  table_fault : (rows : ℕ) (levels entries : List ℕ) → ReachesIngredient o i (table rows levels entries) → (f : Result (Unit {0}) TableFault)
      → (table_verdict (table_of entries levels rows)).finding ≡ f → table_refusal i f ≡ some why → Fault o why
  unfolding table_refusal
  table_fault rows levels entries reached (Ok tt) found e = absurd (none-ne-some why e)
  table_fault rows levels entries reached (Err (Column c x times)) found e =
      subst (Fault o) (some-injective _ why e)
      (uneven_level i c x times
      (record {
        rows = rows;
        levels = levels;
        entries = entries;
        reached = reached;
        gap = _;
        first_fault = table_fails _ _ found;
      }))
  table_fault rows levels entries reached (Err (Pair c d x y times)) found e =
      subst (Fault o) (some-injective _ why e)
      (uneven_pair i c d x y times
      (record {
        rows = rows;
        levels = levels;
        entries = entries;
        reached = reached;
        gap = _;
        first_fault = table_fails _ _ found;
      }))

  matrix_fault : (rows columns p : ℕ) (entries : List ℕ) → ReachesIngredient o i (matrix rows columns p entries) → (f : Result (Unit {0}) DifferenceFault)
      → matrix_verdict (matrix_of entries rows columns p) ≡ f → matrix_refusal i f ≡ some why → Fault o why
  unfolding matrix_refusal
  matrix_fault rows columns p entries reached (Ok tt) found e = absurd (none-ne-some why e)
  matrix_fault rows columns p entries reached (Err fault) found e =
      subst (Fault o) (some-injective _ why e)
      (uneven_difference i fault
      (record { rows = rows; columns = columns; modulus = p; entries = entries; reached = reached; first_fault = matrix_fails _ fault found }))

  generator_fault : (t s : ℕ) (widths entries : List ℕ) → 0 < s → ReachesIngredient o i (generator t s widths entries) → (f : Result (Unit {0}) DependenceFault)
      → generator_verdict (generator_of entries t s widths) ≡ f → generator_refusal i f ≡ some why → Fault o why
  unfolding generator_refusal generator_of
  generator_fault t s widths entries positive reached (Ok tt) found e = absurd (none-ne-some why e)
  generator_fault t s widths entries positive reached (Err fault) found e =
      subst (Fault o) (some-injective _ why e)
      (dependent i fault
      (record { coordinates = t; size = s; widths = widths; entries = entries; reached = reached; first_fault = generator_fails _ positive fault found }))

  ingredient_fault : (g : Ingredient) → IngredientLimits g → ReachesIngredient o i g → ingredient_refusal i g ≡ some why → Fault o why
  unfolding ingredient_refusal
  ingredient_fault (table rows levels entries) limits reached e = table_fault rows levels entries reached _ refl e
  ingredient_fault (matrix rows columns p entries) limits reached e = matrix_fault rows columns p entries reached _ refl e
  ingredient_fault (generator t s widths entries) limits reached e =
      generator_fault t s widths entries (omega (arith, limits.2.0)) reached _ refl e

-- one more at the end
all_snoc : {A : Type 0} (P : A → Type 0) (xs : List A) (x : A) → All P xs → P x → All P (xs ++ x ∷ [])
all_snoc P [] x all p = (p, tt)
all_snoc P (y ∷ ys) x all p = (all.0, all_snoc P ys x all.1 p)

ingredients_fault : (o : Order) (before gs : List Ingredient) (i : ℕ) {why : Refusal} → o.ingredients ≡ before ++ gs → i ≡ length before + 1
    → All MeetsDefinition before → All IngredientLimits gs → ingredients_refusal i gs ≡ some why → Fault o why
unfolding ingredients_refusal
ingredients_fault o before [] i {why} whole number passing limits e = absurd (none-ne-some why e)
ingredients_fault o before (g ∷ gs) i {why} whole number passing limits e =
    found (ingredient_refusal i g) refl e
    (λ passes rest.
    ingredients_fault o (before ++ g ∷ []) gs (i + 1)
    (whole ∙ sym (append_snoc before g gs))
    (omega (arith, length-append before (g ∷ [])))
    (all_snoc MeetsDefinition before g passing ((ingredient_decides i g limits.0).0 passes))
    limits.1
    rest)
  where
    found : (x : Option Refusal) → ingredient_refusal i g ≡ x → (x or_else ingredients_refusal (i + 1) gs) ≡ some why
        → (ingredient_refusal i g ≡ none → ingredients_refusal (i + 1) gs ≡ some why → Fault o why) → Fault o why
    found none is e next = next is e
    found (some other) is e next =
        ingredient_fault o i g limits.0 (record { before = before; after = gs; one_of = whole; number = number; passing = passing }) (is ∙ e)

-- ---- questions 5 to 8

-- what questions 5 to 8 find wrong with an order's steps
data No (o : Order) : Refusal → Type 0 where
  not_allowed : (n : ℕ) → NotAllowed o n → No o (StepNotAllowed n)
  not_fitting : (n : ℕ) → NotFitting o n → No o (PartsDoNotFit n)
  no_sum : (n r h : ℕ) → NoSum o n r h → No o (NotTheSum n r h)
  too_large : (n N m : ℕ) → SheetTooLarge o n N m → No o (TooLarge n N m)
  uneven_value : (n i c v : ℕ) → UnevenMatrix o n i c v → No o (UnevenValue n i c v)

-- question 8
size_no : (n : ℕ) (S : Table) {why : Refusal} → sized n S ≡ refused why → Oversized S S.runs (columns S) × (TooLarge n S.runs (columns S) ≡ why)
unfolding sized
size_no n S {why} e = tested (small_enough S) refl e
  where
    tested : (b : Bool) → small_enough S ≡ b → cond b (filled S) (refused (TooLarge n S.runs (columns S))) ≡ refused why
        → Oversized S S.runs (columns S) × (TooLarge n S.runs (columns S) ≡ why)
    tested true is e = absurd (refused_not_filled (sym e))
    tested false is e =
        (record { oversized = λ small. subst T is ((size_decides S).1 small); runs_are = refl; columns_are = refl }, same_refusal e)

module _ (o : Order) {why : Refusal} where
  -- the first step
  first_no : (step : Step) → ReachesFirst o 1 step → first_step o step ≡ refused why → No o why
  unfolding first_step provided NotAllowed SheetTooLarge
  first_no step at e = found (opening o step) refl e
    where
      found : (x : Option Table) → opening o step ≡ x → provided x (StepNotAllowed 1) (sized 1) ≡ refused why → No o why
      found none is e =
          subst (No o) (same_refusal e)
          (not_allowed 1 (inl (step, at, λ S opens. none-ne-some S (sym is ∙ (opens_iff o step).1 opens))))
      found (some S) is e =
          let (large, same) = size_no 1 S e in
          subst (No o) same (too_large 1 _ _ (inl (step, S, at, (opens_iff o step).0 is, large)))

  -- a later step on the sheet S
  module _ (n : ℕ) (step : Step) (S : Table) (at : ReachesLater o n step S) where
    sums_no : (f : Operation) → Does o step f → Fits f S → EvenMatrices f S → (x : Option MemberFault) → wrong_member f S ≡ x → after_sums n (applied f S) x ≡ refused why → No o why
    unfolding after_sums wrong_member Fits SheetTooLarge
    sums_no f allowed fitting even none is e =
        let (large, same) = size_no n (applied f S) e in
        subst (No o) same
        (too_large n _ _
        (inr
        (record {
          step = step;
          sheet = S;
          at = at;
          doing = f;
          allowed = allowed;
          fitting = fitting;
          even_matrices = even;
          true_sums = (sums_decide f S).0 is;
          too_large = large;
        })))
    sums_no f allowed fitting even (some fault) is e = subst (No o) (same_refusal e) (wrong f allowed fitting is)
      where
        wrong : (g : Operation) → Does o step g → Fits g S → wrong_member g S ≡ some fault → No o (NotTheSum n fault.run fault.member_number)
        wrong (sum Ds k) allowed fitting is = absurd (none-ne-some fault is)
        wrong (merge p cs) allowed fitting is =
            no_sum n fault.run fault.member_number
            (record {
              step = step;
              sheet = S;
              at = at;
              p = p;
              members = cs;
              allowed = allowed;
              fitting = fitting;
              lowest = fault_lowest p cs S fault is;
            })
        wrong (split c A) allowed fitting is = absurd (none-ne-some fault is)
        wrong (cross ds Ds k H) allowed fitting is = absurd (none-ne-some fault is)

    -- a CROSS whose matrices are not even
    uneven_no : (f : Operation) → Does o step f → Fits f S → uneven_matrix n f S ≡ some why → No o why
    unfolding uneven_matrix value_refusal Fits
    uneven_no (sum Ds k) allowed fitting is = absurd (none-ne-some why is)
    uneven_no (merge p cs) allowed fitting is = absurd (none-ne-some why is)
    uneven_no (split c A) allowed fitting is = absurd (none-ne-some why is)
    uneven_no (cross ds Ds k H) allowed fitting is =
        let (fault, found, same) = (map-eq-some_iff (value_refusal n ds) (serving_fault Ds S.levels)).0 is in
        subst (No o) same
        (uneven_value n _ _ _
        (record {
          step = step;
          sheet = S;
          at = at;
          numbers = ds;
          matrices = Ds;
          adjoined = k;
          other = H;
          allowed = allowed;
          fitting = fitting;
          fault = fault;
          first_uneven = fault_first Ds S fault found;
          ingredient_is = refl;
          column_is = refl;
          value_is = refl;
        }))

    matrices_no : (f : Operation) → Does o step f → Fits f S → (x : Option Refusal) → uneven_matrix n f S ≡ x
        → unless x (after_sums n (applied f S) (wrong_member f S)) ≡ refused why → No o why
    unfolding unless
    matrices_no f allowed fitting none is e = sums_no f allowed fitting ((matrices_decide n f S).0 is) (wrong_member f S) refl e
    matrices_no f allowed fitting (some other) is e = uneven_no f allowed fitting (is ∙ ap some (same_refusal e))

    fits_no : (f : Operation) → Does o step f → (b : Bool) → fits f S ≡ b
        → cond b (unless (uneven_matrix n f S) (after_sums n (applied f S) (wrong_member f S))) (refused (PartsDoNotFit n)) ≡ refused why → No o why
    fits_no f allowed true is e = matrices_no f allowed ((fits_decides f S).0 (subst T (sym is) tt)) (uneven_matrix n f S) refl e
    fits_no f allowed false is e =
        subst (No o) (same_refusal e)
        (not_fitting n
        (record {
          step = step;
          sheet = S;
          at = at;
          doing = f;
          allowed = allowed;
          unfit = λ fitting. subst T is ((fits_decides f S).1 fitting);
        }))

    later_no : later_step o n S step ≡ refused why → No o why
    unfolding later_step provided operate NotAllowed
    later_no e = found (operation o step) refl e
      where
        found : (x : Option Operation) → operation o step ≡ x → provided x (StepNotAllowed n) (operate n S) ≡ refused why → No o why
        found none is e =
            subst (No o) (same_refusal e)
            (not_allowed n (inr (step, S, at, λ f does. none-ne-some f (sym is ∙ (does_iff o step).1 does))))
        found (some f) is e = fits_no f ((does_iff o step).0 is) (fits f S) refl e

-- ---- all steps

module _ (o : Order) where
  -- one step more is carried out
  later_snoc : (S : Table) (before : List Step) (c : LaterCarried o S before) (step : Step) (d : Carried o (latest S (later_sheets o S before c)) step)
      → (c' : LaterCarried o S (before ++ step ∷ []))
      × (latest S (later_sheets o S (before ++ step ∷ []) c') ≡ applied d.doing (latest S (later_sheets o S before c)))
  unfolding LaterCarried later_sheets
  later_snoc S [] c step d = ((d, tt), refl)
  later_snoc S (x ∷ xs) c step d =
      let (more, same) = later_snoc (applied c.0.doing S) xs c.1 step d in
      ((c.0, more), same)

  all_steps_snoc : (first : Step) (before : List Step) (c : AllCarried o (first ∷ before)) (step : Step) (d : Carried o (final_sheet o (first ∷ before) c) step)
      → (c' : AllCarried o (first ∷ (before ++ step ∷ [])))
      × (final_sheet o (first ∷ (before ++ step ∷ [])) c' ≡ applied d.doing (final_sheet o (first ∷ before) c))
  unfolding AllCarried final_sheet
  all_steps_snoc first before c step d =
      let (more, same) = later_snoc c.0.sheet before c.1 step d in
      ((c.0, more), same)

  later_steps_no : (first : Step) (before steps : List Step) (n : ℕ) {why : Refusal} → o.steps ≡ first ∷ (before ++ steps) → n ≡ length before + 2
      → (c : AllCarried o (first ∷ before)) → later_steps o n (final_sheet o (first ∷ before) c) steps ≡ refused why → No o why
  unfolding later_steps proceed
  later_steps_no first before [] n whole number c e = absurd (refused_not_filled (sym e))
  later_steps_no first before (step ∷ steps) n {why} whole number c e =
      tried (later_step o n (final_sheet o (first ∷ before) c) step) refl e
      (λ next d same rest.
      let (more, reached) = all_steps_snoc first before c step d in
      later_steps_no first (before ++ step ∷ []) steps (n + 1)
      (whole ∙ ap (λ l. first ∷ l) (sym (append_snoc before step steps)))
      (omega (arith, length-append before (step ∷ [])))
      more
      (ap (λ R. later_steps o (n + 1) R steps) (reached ∙ same) ∙ rest))
    where
      tried : (x : Outcome) → later_step o n (final_sheet o (first ∷ before) c) step ≡ x → proceed x (λ next. later_steps o (n + 1) next steps) ≡ refused why
          → ((next : Table) (d : Carried o (final_sheet o (first ∷ before) c) step) → applied d.doing (final_sheet o (first ∷ before) c) ≡ next
          → later_steps o (n + 1) next steps ≡ refused why → No o why)
          → No o why
      tried (filled next) is e go = let (d, same) = step_carried o n (final_sheet o (first ∷ before) c) step is in go next d same e
      tried (refused other) is e go =
          later_no o n step (final_sheet o (first ∷ before) c)
          (record { first = first; before = before; after = steps; one_of = whole; number = number; carried = c; sheet = refl }) (is ∙ e)

  -- one of the steps, of which there is one or more, is answered No
  steps_no : (steps : List Step) {why : Refusal} → o.steps ≡ steps → 1 ≤ length steps → all_steps o steps ≡ refused why → No o why
  unfolding all_steps proceed AllCarried LaterCarried final_sheet later_sheets
  steps_no [] whole some_steps e = absurd (omega arith)
  steps_no (step ∷ steps) {why} whole some_steps e = tried (first_step o step) refl e
    where
      tried : (x : Outcome) → first_step o step ≡ x → proceed x (λ S. later_steps o 2 S steps) ≡ refused why → No o why
      tried (filled next) is e =
          let (c, same) = first_carried o step is in
          later_steps_no step [] steps 2 whole refl (c, tt) (ap (λ R. later_steps o 2 R steps) same ∙ e)
      tried (refused other) is e = first_no o step (record { after = steps; one_of = whole; number = refl }) (is ∙ e)

-- ---- the list

module _ (list : List ℕ) (lengths : Lengths) (suffices : Suffices lengths) where
  -- what is wrong with an ingredient, or a step, is the cause
  fault_cause : (o : Order) {why : Refusal} → ReachesPassing list lengths o → Fault o why → Cause list lengths why
  unfolding Cause
  fault_cause o ranged (uneven_level i c x times fails) = (o, ranged, fails)
  fault_cause o ranged (uneven_pair i c d x y times fails) = (o, ranged, fails)
  fault_cause o ranged (uneven_difference i f fails) = (o, ranged, fails)
  fault_cause o ranged (dependent i f fails) = (o, ranged, fails)

  no_cause : (o : Order) {why : Refusal} → ReachesSteps list lengths o → No o why → Cause list lengths why
  unfolding Cause
  no_cause o passing (not_allowed n why) = (o, passing, why)
  no_cause o passing (not_fitting n why) = (o, passing, why)
  no_cause o passing (no_sum n r h why) = (o, passing, why)
  no_cause o passing (too_large n N m why) = (o, passing, why)
  no_cause o passing (uneven_value n i c v why) = (o, passing, why)

  -- questions 4 to 8 of an order with its entries in range
  asked_cause : (o : Order) {why : Refusal} → ReachesPassing list lengths o
      → unless (ingredients_refusal 1 o.ingredients) (all_steps o o.steps) ≡ refused why → Cause list lengths why
  unfolding unless
  asked_cause o {why} ranged e = found (ingredients_refusal 1 o.ingredients) refl e
    where
      found : (x : Option Refusal) → ingredients_refusal 1 o.ingredients ≡ x → unless x (all_steps o o.steps) ≡ refused why → Cause list lengths why
      found none is e =
          let limits = ranged.read.limits in
          let passing = (ingredients_decide 1 o.ingredients limits.each_ingredient).0 is in
          no_cause o (record { ranged = ranged; passing = passing }) (steps_no o o.steps refl limits.step_count.0 e)
      found (some other) is e =
          fault_cause o ranged (ingredients_fault o [] o.ingredients 1 refl refl tt ranged.read.limits.each_ingredient (is ∙ ap some (same_refusal e)))

  -- question 3, and those after it
  ranged_cause : (o : Order) {why : Refusal} → ReachesRange list lengths o → Reads list o → (x : Result (Unit {0}) RangeFault) → range_of (read_order list) ≡ x
      → unless (range_refusal x) (unless (ingredients_refusal 1 o.ingredients) (all_steps o o.steps)) ≡ refused why → Cause list lengths why
  unfolding unless range_refusal Cause
  ranged_cause o writes reads (Ok tt) is e = asked_cause o (record { read = writes; in_range = (range_iff list o reads).0 is }) e
  ranged_cause o writes reads (Err (OutOfRange place)) is e =
      subst (Cause list lengths) (same_refusal e) (o, writes, out_of_range list o reads place is)
  ranged_cause o writes reads (Err Unread) is e = absurd (asked list o reads is)

  -- question 2, and those after it
  read_cause : {why : Refusal} (x : Parsed Order) → read_order list ≡ x → read_outcome x ≡ refused why → Cause list lengths why
  unfolding read_outcome Cause outcome
  read_cause (unread place) is e = subst (Cause list lengths) (same_refusal e) (suffices, unreadable list place is)
  read_cause (value o end) is e =
      let reads : Reads list o = is ∙ ap (value o) (reads_whole list o end is) in
      let (short, limits, writes) = (reads_iff list o).0 reads in
      ranged_cause o (record { suffices = suffices; short_enough = short; limits = limits; writes = writes }) reads _ refl
      (sym (outcome_read list o reads) ∙ ap read_outcome is ∙ e)

  pub refused_cause : {why : Refusal} → outcome list ≡ refused why → Cause list lengths why
  unfolding outcome
  refused_cause e = read_cause (read_order list) refl e
