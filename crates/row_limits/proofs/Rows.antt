-- The search row by row: it finds what a search through all numbers finds; one row of those that are left; and the limits of a row.
use mathlib.Core.Path.{◌≡◌, refl, sym, ◌∙◌, ap}
use mathlib.Core.Bool.{Bool, true, false, true≢false, false≢true}
use mathlib.Core.List.{List, ◌∷◌}
use Prim.Native.Nat.{ℕ, zero, suc, ◌+◌, ◌*◌, ◌-◌, ◌≤◌, ◌<◌}
use native.Mathlib.Nat.{add-zero, add_assoc, add-sub_cancel_left, zero-mul, suc-mul}
use native.Mathlib.Omega.{arith}
use lib.Dec.{ltb}
use lib.ListN.{length, get_or, take, drop, replicate, length-drop, length-replicate, get_or-replicate}
use lib.Seq.{length-take-le}
use Rattle.order.specs.Range.{first_failing, earlier, is_in_range}
use Rattle.std.specs.Prelude.{Result, Ok, Err}
use Rattle.order.specs.declared.RangeFault.{RangeFault}
use Rattle.order.proofs.Segment.{Segment, segment_at}
use Rattle.order.proofs.Failing.{failing_same, failing_parts, failing_from}
use Rattle.row_limits.specs.High.{high_in_row, high_in_rows}

-- Number q of u is below its bound.
abbrev under : List ℕ → (ℕ → ℕ) → ℕ → Bool
under u bound q = ltb (get_or u q 0) (bound q)

-- Numbers u that stand from place start on, in rows that all have the same limits, which are the bounds of their numbers.
module _ {list : List ℕ} {start next : ℕ} {u : List ℕ} (s : Segment list start u next) (limits : List ℕ) (bound : ℕ → ℕ)
    (same : (k c : ℕ) → c < length limits → bound (k * length limits + c) ≡ get_or limits c 0) where
  -- Row k, from 0, has the numbers from k * length limits on.
  row_same : (k : ℕ) → k * length limits + length limits ≤ length u →
      high_in_row list (start + k * length limits) limits ≡ first_failing (under u bound) start (length limits) (k * length limits)
  unfolding high_in_row
  row_same k fits =
      failing_same _ (λ c. under u bound (k * length limits + c)) _ (length limits) 0
      (λ c low high. rw (add_assoc, segment_at s (k * length limits + c) (omega arith), same k c (omega arith)))
      ∙ failing_from (under u bound) start (length limits) (k * length limits) 0
      ∙ rw add-zero

  rows_same : (rows k : ℕ) → k * length limits + rows * length limits ≤ length u →
      high_in_rows list (start + k * length limits) rows limits ≡ first_failing (under u bound) start (rows * length limits) (k * length limits)
  rows_same zero k fits = rw zero-mul
  rows_same (suc rows) k fits =
      let size : suc rows * length limits ≡ length limits + rows * length limits = omega (arith, suc-mul rows (length limits)) in
      let on : k * length limits + length limits ≡ suc k * length limits = sym (suc-mul k (length limits)) in
      rw (size, failing_parts, row_same k (omega arith), add_assoc, on, rows_same rows (suc k) (omega arith))

  pub high_same : (rows : ℕ) → length u ≡ rows * length limits →
      high_in_rows list start rows limits ≡ first_failing (under u bound) start (length u) 0
  high_same rows size = rw size (rw (zero-mul, add-zero) at (rows_same rows 0 (omega (arith, zero-mul (length limits)))))

-- The same with one limit x for all.
module _ {list : List ℕ} {start next : ℕ} {u : List ℕ} (s : Segment list start u next) (columns x : ℕ) where
  pub high_one : (rows : ℕ) → length u ≡ rows * columns →
      high_in_rows list start rows (replicate columns x) ≡ first_failing (under u (λ q. x)) start (length u) 0
  high_one rows size =
      high_same s (replicate columns x) (λ q. x)
      (λ k c h. sym (get_or-replicate columns c x 0 (omega (arith, length-replicate columns x))))
      rows
      (rw length-replicate size)

-- One of so many rows, after some of them.
on_from : (here rest : Result (Unit {0}) RangeFault) → is_in_range here ≡ true → earlier here rest ≡ rest
on_from (Ok asked) rest e = refl
on_from (Err fault) rest e = absurd (false≢true e)

stop_at : (here rest : Result (Unit {0}) RangeFault) → is_in_range here ≡ false → earlier here rest ≡ here
stop_at (Ok asked) rest e = absurd (true≢false e)
stop_at (Err fault) rest e = refl

module _ (list : List ℕ) (at : ℕ) (limits : List ℕ) (rows done : ℕ) where
  pub rows_on : done < rows → is_in_range (high_in_row list at limits) ≡ true →
      high_in_rows list at (rows - done) limits ≡ high_in_rows list (at + length limits) (rows - (done + 1)) limits
  rows_on h e =
      let more : rows - done ≡ suc (rows - (done + 1)) = omega arith in
      rw more (on_from (high_in_row list at limits) _ e)

  pub rows_stop : done < rows → is_in_range (high_in_row list at limits) ≡ false →
      high_in_rows list at (rows - done) limits ≡ high_in_row list at limits
  rows_stop h e =
      let more : rows - done ≡ suc (rows - (done + 1)) = omega arith in
      rw more (stop_at (high_in_row list at limits) _ e)

  pub rows_done : rows ≤ done → high_in_rows list at (rows - done) limits ≡ Ok tt
  rows_done h = let none : rows - done ≡ 0 = omega arith in rw none

-- How many numbers the rows that are left have: those of one, and of the others.
pub row_first : (rows done columns : ℕ) → done < rows → (rows - done) * columns ≡ columns + (rows - (done + 1)) * columns
row_first rows done columns h = let more : rows - done ≡ suc (rows - (done + 1)) = omega arith in rw (more, suc-mul) (omega arith)

-- The limits as the code lends them, and how many there are: the first of many that are all x, and level counts from a place of the list on.
pub limits_one : (n most x : ℕ) → n ≤ most → take n (replicate most x) ≡ replicate n x
limits_one zero most x h = refl
limits_one (suc n) zero x h = absurd (omega arith)
limits_one (suc n) (suc most) x h = ap (λ rest. x ∷ rest) (limits_one n most x (omega arith))

pub limits_one_length : (n most x : ℕ) → n ≤ most → length (take n (replicate most x)) ≡ n
limits_one_length n most x h = rw (limits_one n most x h) (length-replicate n x)

pub limits_part : (list : List ℕ) (at n : ℕ) → take (at + n - at) (drop at list) ≡ take n (drop at list)
limits_part list at n = rw add-sub_cancel_left

pub limits_part_length : (list : List ℕ) (at n : ℕ) → at + n ≤ length list → length (take (at + n - at) (drop at list)) ≡ n
limits_part_length list at n h = rw limits_part (length-take-le n (drop at list) (omega (arith, length-drop at list)))
