-- Question 7 run by run: the members of a run that are their sums, and the first that is not.
-- Assumes nothing.
use Rattle.std.specs.Prelude.{Some, None}
use mathlib.Core.Path.{◌≡◌, refl, sym, ◌∙◌, ap}
use mathlib.Core.List.{List}
use mathlib.Core.Option.{Option, none, some}
use Prim.Native.Nat.{ℕ, ◌+◌, ◌-◌, ◌*◌, ◌%◌, ◌≤◌, ◌<◌}
use native.Mathlib.Nat.{add_assoc, add-zero, zero-mul, mod-lt, mod-eq_of_lt, mod-add-mod}
use native.Mathlib.Omega.{arith}
use borrow.Author.Count.{below_more}
use borrow.Author.Tests.{eq-eqb, ne_eqb}
use lib.ListN.{length, get_or, length-map}
use Rattle.finite.specs.Lists.{AllBelow}
use Rattle.finite.proofs.Firsts.{first_none, first_at, first_ext, found_least}
use Rattle.finite.proofs.Fits.{run_more}
use Rattle.counting.specs.Table.{Table, table_of}
use Rattle.step_tables.specs.Merge.{member_at, member_sum, MemberFault, member_fault_at, member_fault}
use Rattle.step_tables.proofs.StepQuestions.{fault_at}
use Rattle.merge_questions.specs.Questions.{members_of, Fitting}
use Rattle.member_check.specs.MemberCheck.{LevelsBelow, every_run, run_fault, as_fault, as_verdict, member_verdict}
use Rattle.member_check.specs.declared.Fault.{Fault}
use Rattle.merge_questions.proofs.Runs.{part_of, member_column, member_level, row_length, row_cell}

-- ---- the members of one run

module _ (p : ℕ) (cs row : List ℕ) (r : ℕ) where
  -- c1 + (h - 2) × c2 modulo p in this row
  abbrev row_sum : ℕ → ℕ
  row_sum h = member_sum p cs (every_run row) r h

  -- it begins with c1 itself
  pub sum_first : {c1 : ℕ} → c1 ≡ get_or cs 0 0 → get_or row c1 0 < p → get_or row c1 0 ≡ row_sum 2
  unfolding member_sum every_run
  sum_first {c1} e below = rw (← e, zero-mul (get_or row (get_or cs 1 0) 0), add-zero (get_or row c1 0)) (sym (mod-eq_of_lt below))

  -- and the next is one c2 more
  pub sum_next : {c2 sum : ℕ} → c2 ≡ get_or cs 1 0 → (h : ℕ) → 2 ≤ h → sum ≡ row_sum h → (sum + get_or row c2 0) % p ≡ row_sum (h + 1)
  unfolding member_sum every_run
  sum_next {c2} e h second so_far =
      let more : h + 1 - 2 ≡ h - 2 + 1 = omega arith in
      rw (so_far, more, run_more (h - 2) (get_or row (get_or cs 1 0) 0), ← e)
      (mod-add-mod (get_or row (get_or cs 0 0) 0 + (h - 2) * get_or row c2 0) p (get_or row c2 0)
      ∙ ap (λ (n : ℕ). n % p) (add_assoc (get_or row (get_or cs 0 0) 0) ((h - 2) * get_or row c2 0) (get_or row c2 0)))

  pub sum_below : {sum : ℕ} → 0 < p → (h : ℕ) → sum ≡ row_sum h → sum < p
  unfolding member_sum
  sum_below positive h e = rw e (mod-lt _ positive)

  -- the first h members are right; h counts members from 0
  unfoldable pub RightBefore : ℕ → Type 0
  RightBefore h = (k : ℕ) → k < h - 2 → member_fault_at p cs (every_run row) r (k + 3) ≡ none

  pub right_none : RightBefore 2
  unfolding RightBefore
  right_none k h = absurd (omega arith)

  -- the member at h
  module _ {c : ℕ} (h : ℕ) (e : c ≡ get_or cs h 0) (third : 2 ≤ h) where
    number : h - 2 + 3 ≡ h + 1
    number = omega arith

    back : h + 1 - 1 ≡ h
    back = omega arith

    right_here : get_or row c 0 ≡ row_sum (h + 1) → member_fault_at p cs (every_run row) r (h - 2 + 3) ≡ none
    unfolding member_fault_at every_run
    right_here q = rw (number, back, ← e, eq-eqb (get_or row c 0) (row_sum (h + 1)) q)

    wrong_here : (get_or row c 0 ≡ row_sum (h + 1) → ⊥)
        → member_fault_at p cs (every_run row) r (h - 2 + 3) ≡ some (record { run = r; member_number = h + 1 })
    unfolding member_fault_at every_run
    wrong_here q = rw (number, back, ← e, ne_eqb (get_or row c 0) (row_sum (h + 1)) q)

    -- one more is right
    pub right_next : RightBefore h → get_or row c 0 ≡ row_sum (h + 1) → RightBefore (h + 1)
    unfolding RightBefore
    right_next right q =
        let more : h + 1 - 2 ≡ h - 2 + 1 = omega arith in
        rw more (below_more _ (h - 2) right (right_here q))

    -- the first that is wrong is found
    pub wrong_found : h < p + 1 → RightBefore h → (get_or row c 0 ≡ row_sum (h + 1) → ⊥)
        → Some (record { run = r; member = h + 1 }) ≡ as_fault (run_fault p cs (every_run row) r)
    unfolding RightBefore run_fault
    wrong_found l right q = sym (ap as_fault (first_at _ (p - 1) (h - 2) _ (omega arith) right (wrong_here q)))

  -- no member is wrong
  pub none_wrong : (h : ℕ) → p + 1 ≤ h → RightBefore h → None ≡ as_fault (run_fault p cs (every_run row) r)
  unfolding RightBefore run_fault
  none_wrong h l right = sym (ap as_fault (first_none _ (p - 1) (λ k m. right k (omega arith))))

-- a member's column is in the row
pub member_in : (numbers row : List ℕ) → AllBelow (length row) (members_of numbers) → (h : ℕ) → h < length numbers → {c : ℕ} → c ≡ get_or (members_of numbers) h 0 → c < length row
unfolding AllBelow
member_in numbers row below h l e = rw e (below h (rw (length-map numbers (λ x. x - 1)) l))

-- and its level there is below p
pub level_in : (p : ℕ) (numbers row : List ℕ) → LevelsBelow p (members_of numbers) row → (h : ℕ) → h < length numbers → {c : ℕ} → c ≡ get_or (members_of numbers) h 0 → get_or row c 0 < p
unfolding LevelsBelow
level_in p numbers row below h l e = rw e (below h (rw (length-map numbers (λ x. x - 1)) l))

-- ---- run by run

-- tables with the same levels in run r have the same fault there
same_fault : (p : ℕ) (cs : List ℕ) (A B : Table) (r h : ℕ)
    → A.cell r (member_at cs h) ≡ B.cell r (member_at cs h) → A.cell r (member_at cs 1) ≡ B.cell r (member_at cs 1) → A.cell r (member_at cs 2) ≡ B.cell r (member_at cs 2)
    → member_fault_at p cs A r h ≡ member_fault_at p cs B r h
unfolding member_fault_at member_sum
same_fault p cs A B r h e e1 e2 = rw (e, e1, e2)

-- the code's answer says what was found
pub at_found : (o : Option MemberFault) (fault : Fault) → Some fault ≡ as_fault o → o ≡ some (record { run = fault.run; member_number = fault.member })
at_found none fault e = cc
at_found (some f) fault e =
    let same : fault ≡ record { run = f.run; member = f.member_number } = cc in
    ap (λ (x : Fault). some (record { run = x.run; member_number = x.member })) (sym same)

pub none_found : (o : Option MemberFault) → None ≡ as_fault o → o ≡ none
none_found none e = refl
none_found (some f) e = cc

-- a fault that is found in run r names r
run_named : (p : ℕ) (cs : List ℕ) (S : Table) (r : ℕ) (f : MemberFault) → run_fault p cs S r ≡ some f → r ≡ f.run
unfolding run_fault
run_named p cs S r f e =
    let least = found_least (λ k. member_fault_at p cs S r (k + 3)) (p - 1) f e in
    ap (λ (x : MemberFault). x.run) (fault_at p cs S r (least.place + 3) f least.there).0

-- every member is right in the runs before n
unfoldable pub RightRuns : ℕ → List ℕ → Table → ℕ → Type 0
RightRuns p cs S n = (i : ℕ) → i < n → run_fault p cs S i ≡ none

pub runs_right_none : (p : ℕ) (cs : List ℕ) (S : Table) → RightRuns p cs S 0
unfolding RightRuns
runs_right_none p cs S i h = absurd (omega arith)

module _ {p : ℕ} {numbers table levels : List ℕ} {runs : ℕ} (fit : Fitting p numbers table levels runs) where
  abbrev members : List ℕ
  members = members_of numbers

  abbrev sheet : Table
  sheet = table_of table levels runs

  -- run r, which lies from place start on
  module _ (r start : ℕ) (h : r < runs) (e : start ≡ r * length levels) where
    abbrev row : List ℕ
    row = part_of table start (length levels)

    pub members_in_row : AllBelow (length row) members
    unfolding AllBelow
    members_in_row k l = rw (row_length fit r start h e) (member_column fit k (rw fit.fits.many at l))

    member_cell : (k : ℕ) → k < p + 1 → get_or row (get_or members k 0) 0 ≡ get_or table (r * length levels + get_or members k 0) 0
    member_cell k l = row_cell fit r start h e (get_or members k 0) (member_column fit k l)

    pub levels_in_row : LevelsBelow p members row
    unfolding LevelsBelow
    levels_in_row k l =
        let among : k < p + 1 = rw fit.fits.many at l in
        rw (member_cell k among) (member_level fit k r among h)

    -- the fault of a run in its own bytes is that of the run on the sheet
    row_fault : run_fault p members (every_run row) r ≡ run_fault p members sheet r
    unfolding run_fault every_run table_of
    row_fault =
        first_ext (p - 1) (λ k l.
        same_fault p members (every_run row) sheet r (k + 3)
        (member_cell (k + 3 - 1) (omega arith)) (member_cell 0 (omega arith)) (member_cell 1 (omega (arith, fit.named.least))))

    pub runs_right_next : RightRuns p members sheet r → None ≡ as_fault (run_fault p members (every_run row) r) → RightRuns p members sheet (r + 1)
    unfolding RightRuns
    runs_right_next right found = below_more _ r right (sym row_fault ∙ none_found _ found)

    -- run r is the first wrong one, and with it r + 1 runs were needed
    pub runs_wrong : RightRuns p members sheet r → {fault : Fault} → Some fault ≡ as_fault (run_fault p members (every_run row) r)
        → record { fault = Some fault; needed = r + 1 } ≡ member_verdict p members sheet
    unfolding RightRuns run_fault member_fault member_verdict table_of
    runs_wrong right {fault} found =
        let there = sym row_fault ∙ at_found _ fault found in
        ap (λ (n : ℕ). record { fault = Some fault; needed = n + 1 }) (run_named p members sheet r _ there)
        ∙ sym (ap (as_verdict sheet) (first_at _ runs r _ h right there))

  -- no run is wrong, and all were needed
  pub runs_right : (n : ℕ) → runs ≤ n → RightRuns p members sheet n → record { fault = None; needed = runs } ≡ member_verdict p members sheet
  unfolding RightRuns run_fault member_fault member_verdict table_of
  runs_right n least right =
      sym (ap (as_verdict sheet) (first_none _ runs (λ i h. right i (omega arith))))
