-- MERGE as it stands in the list: its p and members, and what the step comes to question by question.
-- Assumes nothing.
use Rattle.std.specs.Prelude.{Option as CodeOption, Some, None}
use mathlib.Core.Path.{◌≡◌, refl, sym, ◌∙◌, ap, subst}
use mathlib.Core.Bool.{Bool, true, false, cond}
use mathlib.Core.List.{List, []}
use Prim.Native.Nat.{ℕ, zero, suc, ◌+◌, ◌-◌, ◌≤◌}
use native.Mathlib.Omega.{arith}
use lib.Dec.{T}
use lib.ListN.{length, get_or, take, drop}
use lib.Seq.{length-take-le}
use Rattle.counting.specs.Table.{Table, columns, table_of}
use Rattle.order.specs.Order.{Between}
use Rattle.order.proofs.Segment.{segment_fits}
use Rattle.step_tables.specs.Sheet.{from_sources, SmallEnough, small_enough}
use Rattle.step_tables.specs.Merge.{MergeFits, merge_fits, member_fault, merge_step}
use Rattle.sheets.specs.Steps.{filled, refused, provided, unless, merge, operation, fits, uneven_matrix, wrong_member, applied, sized, after_sums, operate, later_step}
use Rattle.sheets.specs.declared.answer.Refusal.TheVariants.{PartsDoNotFit, NotTheSum, TooLarge}
use Rattle.sheets.specs.declared.answer.Answer.{Answer}
use Rattle.sheets.specs.declared.answer.Answer.TheVariants.{Refused}
use Rattle.sheets.proofs.Ingredients.{all_get_d}
use Rattle.step_tables.proofs.Merge.{merge_columns}
use Rattle.step_tables.proofs.StepQuestions.{size_decides, merge_decides}
use Rattle.layout.specs.Bytes.{zeros, sheet_in}
use Rattle.layout.specs.Step.{Readable, Stands, Ready, later_in, Left}
use Rattle.merge_questions.specs.Questions.{members_of, Named, Fitting, role_of, HasRoles}
use Rattle.member_check.specs.MemberCheck.{member_verdict}
use Rattle.layout.specs.declared.Size.{Size}
use Rattle.member_check.specs.declared.Fault.{Fault}
use Rattle.member_check.specs.declared.MemberVerdict.{MemberVerdict}
use Rattle.layout.proofs.Sheets.{ready_few, ready_used}
use Rattle.layout.proofs.Operands.{later_in_lem, operands_stand}
use Rattle.member_check.proofs.Members.{at_found, none_found}

true_of : (b : Bool) → T b → b ≡ true
true_of true t = refl
true_of false t = absurd t

-- ---- before question 6

-- zeros are the roles without members
pub roles_clear : (n : ℕ) → HasRoles [] (zeros n)
unfolding HasRoles role_of
roles_clear zero q = refl
roles_clear (suc n) zero = refl
roles_clear (suc n) (suc q) = roles_clear n q

-- ---- p and the members

-- p, and the numbers of the members as they are lent from the list
abbrev pub prime_at : List ℕ → ℕ → ℕ
prime_at list at = get_or list at 0

abbrev pub numbers_at : List ℕ → ℕ → List ℕ
numbers_at list at = take (at + 1 + prime_at list at + 1 - (at + 1)) (drop (at + 1) list)

numbers_are : (list : List ℕ) (at : ℕ) → numbers_at list at ≡ take (prime_at list at + 1) (drop (at + 1) list)
numbers_are list at =
    let many : at + 1 + prime_at list at + 1 - (at + 1) ≡ prime_at list at + 1 = omega arith in
    ap (λ (n : ℕ). take n (drop (at + 1) list)) many

module _ {list : List ℕ} {at : ℕ} (readable : Readable list) (stands : Stands list 4 at) where
  -- they stand within the list
  pub merge_end : at + 1 + prime_at list at + 1 ≤ length list
  merge_end =
      operands_stand readable 4 at stands λ place after e limits s.
      omega (arith, segment_fits s (omega arith), e, limits.1)

  pub merge_named : Named (prime_at list at) (numbers_at list at)
  merge_named =
      operands_stand readable 4 at stands λ place after e limits s.
      rw (numbers_are list at)
      (record {
        least = limits.0.0.0;
        most = limits.0.0.1;
        many = limits.1;
        from_one = λ k h. (all_get_d (Between 1 128) (take (prime_at list at + 1) (drop (at + 1) list)) limits.2 k 0 h).0;
      })

  merge_in : (n : ℕ) (S : Table) → later_in list n S 4 at ≡ operate n S (merge (prime_at list at) (members_of (numbers_at list at)))
  unfolding later_step provided operation
  merge_in n S = later_in_lem readable 4 at n S ∙ rw (numbers_are list at)

-- ---- what the step comes to

module _ (n p : ℕ) (cs : List ℕ) (table levels : List ℕ) (size : Size) where
  abbrev sheet : Table
  sheet = sheet_in table levels size

  abbrev counted : List ℕ
  counted = take size.columns levels

  -- question 6 looks at the level counts alone
  pub not_fitting : false ≡ merge_fits p cs (table_of [] counted 0) → operate n sheet (merge p cs) ≡ refused (PartsDoNotFit n)
  unfolding unless operate fits uneven_matrix sheet_in merge_fits table_of
  not_fitting e = ap (λ b. cond b (after_sums n (applied (merge p cs) sheet) (wrong_member (merge p cs) sheet)) (refused (PartsDoNotFit n))) (sym e)

  module _ (e : true ≡ merge_fits p cs (table_of [] counted 0)) where
    pub members_fit : MergeFits p cs (table_of table counted size.runs)
    unfolding merge_fits table_of
    members_fit = (merge_decides p cs (table_of table counted size.runs)).0 (subst T e tt)

    fitting : operate n sheet (merge p cs) ≡ after_sums n (merge_step p cs sheet) (member_fault p cs sheet)
    unfolding unless operate fits uneven_matrix applied wrong_member sheet_in merge_fits table_of
    fitting = ap (λ b. cond b (after_sums n (merge_step p cs sheet) (member_fault p cs sheet)) (refused (PartsDoNotFit n))) (sym e)

    pub not_the_sum : {fault : Fault} → Some fault ≡ (member_verdict p cs (table_of table counted size.runs)).fault
        → operate n sheet (merge p cs) ≡ refused (NotTheSum n fault.run fault.member)
    unfolding after_sums sheet_in member_verdict
    not_the_sum {fault} found = fitting ∙ ap (after_sums n (merge_step p cs sheet)) (at_found (member_fault p cs sheet) fault found)

    -- p columns go, and no run comes
    small_next : SmallEnough sheet → small_enough (merge_step p cs sheet) ≡ true
    unfolding sheet_in merge_step from_sources table_of
    small_next small =
        true_of (small_enough (merge_step p cs sheet))
        ((size_decides (merge_step p cs sheet)).1
        (record { runs_most = small.runs_most; columns_most = omega (arith, merge_columns p cs sheet members_fit, small.columns_most) }))

    pub all_sums : SmallEnough sheet → None ≡ (member_verdict p cs (table_of table counted size.runs)).fault
        → operate n sheet (merge p cs) ≡ filled (merge_step p cs sheet)
    unfolding after_sums sized sheet_in member_verdict
    all_sums small found =
        fitting
        ∙ ap (after_sums n (merge_step p cs sheet)) (none_found (member_fault p cs sheet) found)
        ∙ ap (λ b. cond b (filled (merge_step p cs sheet)) (refused (TooLarge n (merge_step p cs sheet).runs (columns (merge_step p cs sheet))))) (small_next small)

-- ---- the same of a step that stands in the list, where the sheet is ready

module _ {list : List ℕ} {at : ℕ} {size : Size} {table levels scratch : List ℕ} (stands : Stands list 4 at) (ready : Ready list size table levels scratch) where
  abbrev p : ℕ
  p = prime_at list at

  abbrev numbers : List ℕ
  numbers = numbers_at list at

  abbrev cs : List ℕ
  cs = members_of numbers

  pub merge_refused : (n : ℕ) → false ≡ merge_fits p cs (table_of [] (take size.columns levels) 0)
      → Left (later_in list n (sheet_in table levels size) 4 at) table levels (Refused (PartsDoNotFit n)) table levels
  unfolding Left
  merge_refused n e =
      rw (merge_in ready.readable stands n (sheet_in table levels size), not_fitting n p cs table levels size e) (refl, refl, refl)

  module _ (e : true ≡ merge_fits p cs (table_of [] (take size.columns levels) 0)) where
    pub merge_fitting : Fitting p numbers table (take size.columns levels) size.runs
    unfolding sheet_in
    merge_fitting =
        record {
          named = merge_named ready.readable stands;
          fits = members_fit 0 p cs table levels size e;
          in_range = ready.sound.array.in_range;
          whole = rw (length-take-le size.columns levels (ready_few ready)) (ready_used ready);
        }

    -- the verdict on the members
    module _ {verdict : MemberVerdict} (is : verdict ≡ member_verdict p cs (table_of table (take size.columns levels) size.runs)) (n : ℕ) where
      fault_is : {fault : CodeOption Fault} → verdict.fault ≡ fault → fault ≡ (member_verdict p cs (table_of table (take size.columns levels) size.runs)).fault
      fault_is there = sym there ∙ ap (λ (v : MemberVerdict). v.fault) is

      pub merge_wrong : {fault : Fault} → verdict.fault ≡ Some fault
          → Left (later_in list n (sheet_in table levels size) 4 at) table levels (Refused (NotTheSum n fault.run fault.member)) table levels
      unfolding Left
      merge_wrong there =
          rw (merge_in ready.readable stands n (sheet_in table levels size), not_the_sum n p cs table levels size e (fault_is there)) (refl, refl, refl)

      pub merge_done : verdict.fault ≡ None → (answer : Answer) (table' levels' : List ℕ)
          → Left (filled (merge_step p cs (sheet_in table levels size))) table levels answer table' levels'
          → Left (later_in list n (sheet_in table levels size) 4 at) table levels answer table' levels'
      merge_done there answer table' levels' left =
          rw (merge_in ready.readable stands n (sheet_in table levels size), all_sums n p cs table levels size e ready.small (fault_is there)) left
