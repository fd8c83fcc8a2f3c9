-- The number of runs that the check reports meets its conditions (02, K4): question 7's search decides that all are sums, and finds the lowest fault.
-- Assumes nothing.
use mathlib.Core.Path.{◌≡◌, refl, ap}
use mathlib.Core.List.{List}
use mathlib.Core.Option.{Option, none, some}
use Prim.Native.Nat.{ℕ}
use native.Mathlib.Nat.{le_refl}
use native.Mathlib.Omega.{arith}
use Rattle.counting.specs.Table.{Table}
use Rattle.step_tables.specs.Merge.{MemberSums, MemberFault, member_fault, LowestFault}
use Rattle.step_tables.proofs.StepQuestions.{members_decide, fault_lowest}
use Rattle.member_check.specs.MemberCheck.{runs_needed, member_verdict, RunsNeeded}
use Rattle.member_check.specs.declared.MemberVerdict.{MemberVerdict}

module _ (p : ℕ) (cs : List ℕ) (S : Table) where
  -- a fault of the lowest run is one
  not_all : (f : MemberFault) → LowestFault p cs S f → MemberSums p cs S → ⊥
  unfolding MemberSums
  not_all f lowest sums = lowest.fails (sums f.run f.member_number lowest.run_below lowest.from_third lowest.to_last)

  by_found : (found : Option MemberFault) → member_fault p cs S ≡ found → RunsNeeded p cs S (runs_needed S found)
  by_found none e =
      let sums = (members_decide p cs S).0 e in
      record {
        at_most = le_refl _;
        one_more = (λ wrong. absurd (wrong sums), λ w. not_all w.0 w.1);
        all = λ _. refl;
      }
  by_found (some f) e =
      let lowest = fault_lowest p cs S f e in
      record {
        at_most = omega (arith, lowest.run_below);
        one_more = (λ _. (f, lowest, refl), λ w. not_all w.0 w.1);
        all = λ sums. absurd (not_all f lowest sums);
      }

  pub runs_needed_lem : {v : MemberVerdict} → v ≡ member_verdict p cs S → RunsNeeded p cs S v.needed
  unfolding member_verdict
  runs_needed_lem e = rw (ap (λ (w : MemberVerdict). w.needed) e) (by_found (member_fault p cs S) refl)
