-- MERGE's question 7 on bytes: what the function that asks it answers (document 01, "Steps by kind", step 4; 02, K4).
use Rattle.std.specs.Prelude.{◌≡◌, ◌↔◌, List, ℕ, ◌+◌, ◌-◌, ◌≤◌, ◌<◌, length, get_or, Option as CodeOption, Some, None}
use Rattle.std.proofs.Math.Option.{Option, none, some}
use Rattle.finite.specs.First.{first}
use Rattle.counting.specs.Table.{Table}
use Rattle.step_tables.specs.Merge.{MemberSums, MemberFault, member_fault_at, member_fault, LowestFault}
use Rattle.member_check.specs.declared.Fault.{Fault}
use Rattle.member_check.specs.declared.MemberVerdict.{MemberVerdict}

-- in one run, every member has a level below p
unfoldable pub LevelsBelow : ℕ → List ℕ → List ℕ → Type 0
LevelsBelow p cs row = (k : ℕ) → k < length cs → get_or row (get_or cs k 0) 0 < p

-- a table in which every run is the same row
unfoldable pub every_run : List ℕ → Table
every_run row = record { runs = 1; levels = row; cell = λ r c. get_or row c 0 }

-- question 7 in run r: the lowest member that is not its sum; members 3 to p + 1
unfoldable pub run_fault : ℕ → List ℕ → Table → ℕ → Option MemberFault
run_fault p cs S r = first (p - 1) (λ k. member_fault_at p cs S r (k + 3))

-- what was found, as the code answers it
abbrev pub as_fault : Option MemberFault → CodeOption Fault
as_fault none = None
as_fault (some fault) = Some (record { run = fault.run; member = fault.member_number })

-- how many runs question 7 needs, by what was found: the run of refusal 10 plus 1, or N when all are sums (02, K4)
abbrev pub runs_needed : Table → Option MemberFault → ℕ
runs_needed S none = S.runs
runs_needed S (some fault) = fault.run + 1

-- the check's answer: what was found, and how many runs that needed
abbrev pub as_verdict : Table → Option MemberFault → MemberVerdict
as_verdict S found = record { fault = as_fault found; needed = runs_needed S found }

unfoldable pub member_verdict : ℕ → List ℕ → Table → MemberVerdict
member_verdict p cs S = as_verdict S (member_fault p cs S)

-- The same of the number as conditions (02, K4): it is at most N; there is a wrong run exactly where it is the run that refusal 10 names plus 1; and it
-- is N when all are sums.
pub record RunsNeeded (p : ℕ) (cs : List ℕ) (S : Table) (n : ℕ) : Type 0 where
  pub at_most : n ≤ S.runs
  pub one_more : (MemberSums p cs S → ⊥) ↔ ((f : MemberFault) × LowestFault p cs S f × (n ≡ f.run + 1))
  pub all : MemberSums p cs S → n ≡ S.runs
