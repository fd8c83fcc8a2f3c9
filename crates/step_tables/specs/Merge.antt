-- The step MERGE p, c1 .. c(p+1) (000): document 01, "Steps by kind" and questions 6 and 7. Columns count from 0 here, members from 1.
use Rattle.std.specs.Prelude.{◌≡◌, ◌≢◌, Bool, cond, ◌&&◌, ℕ, ◌+◌, ◌-◌, ◌*◌, ◌%◌, ◌≤◌, ◌<◌, eqb, ltb, length, get_or}
use mathlib.Core.List.{List, [], ◌∷◌, flat_map, Memᴰ}
use Rattle.std.proofs.Math.Option.{Option, none, some}
use Rattle.finite.specs.First.{first}
use Rattle.finite.specs.Lists.{from}
use Rattle.galois.specs.Arithmetic.{member}
use Rattle.counting.specs.Table.{Table, columns, levels_of}
use Rattle.step_tables.specs.Lists.{Distinct, all_of, all_different}
use Rattle.step_tables.specs.Sheet.{from_sources}

-- the numbers p that may be merged by
abbrev pub merge_primes : List ℕ
merge_primes = 2 ∷ 3 ∷ 5 ∷ 7 ∷ []

-- member number h: the column c_h
abbrev pub member_at : List ℕ → ℕ → ℕ
member_at cs h = get_or cs (h - 1) 0

-- a column of the next sheet is one of the sheet's or the merged one
pub data MergeSource : Type 0 where
  kept : ℕ → MergeSource
  merged : MergeSource

-- what stands in the place of column q: the merged column for c1, nothing for any other member, and a column that is no member itself
unfoldable pub merge_place : List ℕ → ℕ → List MergeSource
merge_place cs q = cond (eqb q (member_at cs 1)) (merged ∷ []) (cond (member q cs) [] (kept q ∷ []))

-- place by place
unfoldable pub merge_sources : List ℕ → Table → List MergeSource
merge_sources cs S = flat_map (merge_place cs) (from 0 (columns S))

-- p × p levels, and any other column keeps its own
unfoldable pub merge_levels : ℕ → Table → MergeSource → ℕ
merge_levels p S (kept q) = levels_of S q
merge_levels p S merged = p * p

-- p × c1 + c2, in run r
unfoldable pub merged_level : ℕ → List ℕ → Table → ℕ → ℕ
merged_level p cs S r = p * S.cell r (member_at cs 1) + S.cell r (member_at cs 2)

-- the merged level, and any other column as it was
unfoldable pub merge_value : ℕ → List ℕ → Table → ℕ → MergeSource → ℕ
merge_value p cs S r (kept q) = S.cell r q
merge_value p cs S r merged = merged_level p cs S r

-- MERGE p, cs, where the sheet is S
unfoldable pub merge_step : ℕ → List ℕ → Table → Table
merge_step p cs S = from_sources S.runs (merge_levels p S) (merge_value p cs S) (merge_sources cs S)

-- question 6: p + 1 columns on the sheet, all different, of p levels
pub record MergeFits (p : ℕ) (cs : List ℕ) (S : Table) : Type 0 where
  pub many : length cs ≡ p + 1
  pub on_sheet : (c : ℕ) → Memᴰ c cs → c < columns S
  pub different : Distinct cs
  pub levels : (c : ℕ) → Memᴰ c cs → levels_of S c ≡ p

-- the same as a test
unfoldable pub merge_fits : ℕ → List ℕ → Table → Bool
merge_fits p cs S =
    eqb (length cs) (p + 1) && all_of (λ c. ltb c (columns S)) cs && all_different cs && all_of (λ c. eqb (levels_of S c) p) cs

-- c1 + (h - 2) × c2 modulo p in run r
unfoldable pub member_sum : ℕ → List ℕ → Table → ℕ → ℕ → ℕ
member_sum p cs S r h = (S.cell r (member_at cs 1) + (h - 2) * S.cell r (member_at cs 2)) % p

-- question 7: member number h from 3 equals c1 + (h - 2) × c2 modulo p in every run
unfoldable pub MemberSums : ℕ → List ℕ → Table → Type 0
MemberSums p cs S =
    (r h : ℕ) → r < S.runs → 3 ≤ h → h ≤ p + 1 → S.cell r (member_at cs h) ≡ member_sum p cs S r h

-- a run, from 0, and a member, from 1
pub record MemberFault : Type 0 where
  pub run : ℕ
  pub member_number : ℕ

-- member number h in run r, where it is not its sum
unfoldable pub member_fault_at : ℕ → List ℕ → Table → ℕ → ℕ → Option MemberFault
member_fault_at p cs S r h =
    cond (eqb (S.cell r (member_at cs h)) (member_sum p cs S r h)) none (some (record { run = r; member_number = h }))

-- the lowest run, and the lowest member in it, that is not its sum; members 3 to p + 1
unfoldable pub member_fault : ℕ → List ℕ → Table → Option MemberFault
member_fault p cs S = first S.runs (λ r. first (p - 1) (λ k. member_fault_at p cs S r (k + 3)))

-- f is a failure of question 7, every run before it is right, and so is every member before it in its run
pub record LowestFault (p : ℕ) (cs : List ℕ) (S : Table) (f : MemberFault) : Type 0 where
  pub run_below : f.run < S.runs
  pub from_third : 3 ≤ f.member_number
  pub to_last : f.member_number ≤ p + 1
  pub fails : S.cell f.run (member_at cs f.member_number) ≢ member_sum p cs S f.run f.member_number
  pub runs_before : (r h : ℕ) → r < f.run → 3 ≤ h → h ≤ p + 1 → S.cell r (member_at cs h) ≡ member_sum p cs S r h
  pub members_before : (h : ℕ) → 3 ≤ h → h < f.member_number → S.cell f.run (member_at cs h) ≡ member_sum p cs S f.run h
