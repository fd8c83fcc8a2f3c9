-- The spare degrees by the total of the level counts: runs and columns on the one side, 1 and all levels on the other.
-- Assumes nothing.
use mathlib.Core.Path.{◌≡◌, refl, sym, ◌∙◌, ap}
use mathlib.Core.List.{List, [], ◌∷◌, ◌++◌}
use Prim.Native.Nat.{ℕ, zero, suc, ◌+◌, ◌*◌, ◌≤◌, ◌<◌}
use native.Mathlib.Nat.{add_assoc, suc-mul, mul-le-mul, le_refl}
use native.Mathlib.Numerals.{add-one, one-add}
use native.Mathlib.Omega.{arith}
use lib.IntN.{pos, ◌+ℤ◌, ◌-ℤ◌}
use lib.ListN.{length, get_or, take}
use lib.Signed.{mag}
use mir.Syntax.{w64}
use mir.Val.{SFits}
use Rattle.finite.specs.Sum.{sum}
use Rattle.finite.proofs.Sums.{sum_first}
use Rattle.order.specs.Order.{total}
use Rattle.counting.specs.Table.{Table, columns}
use Rattle.step_tables.specs.Sheet.{AllLevels, LevelCount, SmallEnough}
use Rattle.spare.specs.Spare.{degrees, spare_of, spare}
use Rattle.integers.proofs.Differences.{difference_sum, difference_less, difference_most, sum_most}

pub total_append : (xs ys : List ℕ) → total (xs ++ ys) ≡ total xs + total ys
total_append [] ys = omega arith
total_append (x ∷ xs) ys = ap (λ n. x + n) (total_append xs ys) ∙ sym (add_assoc x (total xs) (total ys))

pub total_next : (xs : List ℕ) (k : ℕ) → k < length xs → total (take (k + 1) xs) ≡ total (take k xs) + get_or xs k 0
total_next [] k h = absurd (omega arith)
total_next (x ∷ xs) zero h = omega arith
total_next (x ∷ xs) (suc k) h = rw (add-one (suc k)) (omega (arith, rw (add-one k) at (total_next xs k (omega arith))))

-- column by column
pub total_columns : (xs : List ℕ) → total xs ≡ sum (length xs) (λ c. get_or xs c 0)
unfolding sum
total_columns [] = refl
total_columns (x ∷ xs) = ap (λ n. x + n) (total_columns xs) ∙ sym (sum_first (length xs) (λ c. get_or (x ∷ xs) c 0))

-- where every column has a level, there are no fewer levels than columns
pub total_least : (xs : List ℕ) → ((c : ℕ) → c < length xs → 1 ≤ get_or xs c 0) → length xs ≤ total xs
total_least [] some = omega arith
total_least (x ∷ xs) some = omega (arith, some 0 (omega arith), total_least xs (λ c h. some (suc c) (omega arith)))

total_most : (b : ℕ) (xs : List ℕ) → ((c : ℕ) → c < length xs → get_or xs c 0 ≤ b) → total xs ≤ length xs * b
total_most b [] most = omega arith
total_most b (x ∷ xs) most =
    omega (arith, most 0 (omega arith), total_most b xs (λ c h. most (suc c) (omega arith)), suc-mul (length xs) b)

degrees_total : (levels : List ℕ) → degrees levels ≡ pos (total levels) -ℤ pos (length levels)
unfolding degrees
degrees_total [] = refl
degrees_total (s ∷ levels) =
    ap (λ x. (pos s -ℤ pos 1) +ℤ x) (degrees_total levels)
    ∙ difference_sum s 1 (total levels) (length levels)
    ∙ ap (λ n. pos (s + total levels) -ℤ pos n) (one-add (length levels))

module _ (runs : ℕ) (levels : List ℕ) where
  pub spare_total : spare_of runs levels ≡ pos (runs + length levels) -ℤ pos (1 + total levels)
  unfolding spare_of
  spare_total = ap (λ x. (pos runs -ℤ pos 1) -ℤ x) (degrees_total levels) ∙ difference_less runs 1 (total levels) (length levels)

-- at most 512 runs and 128 columns of at most 64 levels
spare_most : (A : Table) → SmallEnough A → AllLevels LevelCount A → mag (spare A) ≤ 8833
unfolding AllLevels
spare_most A small within =
    rw (spare_total A.runs A.levels)
    (omega (
      arith,
      difference_most (A.runs + columns A) (1 + total A.levels),
      total_most 64 A.levels (λ c h. (within c h).1),
      mul-le-mul small.columns_most (le_refl 64),
      small.runs_most,
      small.columns_most,
    ))

-- the spare degrees of two such tables add up to a number of 64 bits
pub spares_fit : (A B : Table) → SmallEnough A → AllLevels LevelCount A → SmallEnough B → AllLevels LevelCount B → SFits w64 (spare A +ℤ spare B)
spares_fit A B small most small' most' =
    record { sfits = omega (arith, sum_most (spare A) (spare B), spare_most A small most, spare_most B small' most') }
