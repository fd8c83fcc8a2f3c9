-- The first number that fails a test: one step of the search, its result when no number fails, the numbers in two parts, and equal tests.
use mathlib.Core.Path.{◌≡◌, refl}
use mathlib.Core.Logic.{◌↔◌}
use mathlib.Core.Bool.{Bool, true, false, ◌&&◌}
use Prim.Native.Nat.{ℕ, zero, suc, ◌+◌, ◌-◌, ◌≤◌, ◌<◌}
use native.Mathlib.Nat.{add-zero, zero-add, suc-add, add_assoc}
use native.Mathlib.Omega.{arith}
use Rattle.order.specs.Reader.{when}
use Rattle.order.specs.Range.{first_failing, earlier, is_in_range}
use Rattle.order.specs.declared.RangeFault.{RangeFault}
use Rattle.std.specs.Prelude.{Result, Ok, Err}
use Rattle.order.specs.declared.RangeFault.TheVariants.{OutOfRange}

module _ (ok : ℕ → Bool) (start : ℕ) where
  pub failing_on : (left q : ℕ) → 0 < left → ok q ≡ true → first_failing ok start left q ≡ first_failing ok start (left - 1) (q + 1)
  failing_on zero q h e = absurd (omega arith)
  failing_on (suc left) q h e = let less : suc left - 1 ≡ left = omega arith in rw (less, e)

  pub failing_stop : (left q : ℕ) → 0 < left → ok q ≡ false → first_failing ok start left q ≡ Err (OutOfRange (start + q))
  failing_stop zero q h e = absurd (omega arith)
  failing_stop (suc left) q h e = rw e

  pub failing_done : (left q : ℕ) → left ≤ 0 → first_failing ok start left q ≡ Ok tt
  failing_done zero q h = refl
  failing_done (suc left) q h = absurd (omega arith)

  -- All pass, those before q among them, where number q does and all after it.
  pub failing_all : (all : Bool) (left q : ℕ) → 0 < left →
      ((all && ok q) && is_in_range (first_failing ok start (left - 1) (q + 1))) ≡ (all && is_in_range (first_failing ok start left q))
  failing_all all zero q h = absurd (omega arith)
  failing_all all (suc left) q h = let less : suc left - 1 ≡ left = omega arith in rw less (go all (ok q) (first_failing ok start left (q + 1)))
    where
      go : (all here : Bool) (rest : Result (Unit {0}) RangeFault) → ((all && here) && is_in_range rest) ≡ (all && is_in_range (when here rest (Err (OutOfRange (start + q)))))
      go true true rest = refl
      go true false rest = refl
      go false here rest = refl

  -- Of numbers in two parts, those of the second are looked at where none of the first fails.
  pub failing_parts : (left more q : ℕ) →
      first_failing ok start (left + more) q ≡ earlier (first_failing ok start left q) (first_failing ok start more (q + left))
  failing_parts zero more q = rw (zero-add, add-zero)
  failing_parts (suc left) more q =
      let next : q + suc left ≡ q + 1 + left = omega arith in
      rw (suc-add, next) (go (ok q) _ _ (failing_parts left more (q + 1)))
    where
      go : (b : Bool) {rest : Result (Unit {0}) RangeFault} (part after : Result (Unit {0}) RangeFault) → rest ≡ earlier part after →
          when b rest (Err (OutOfRange (start + q))) ≡ earlier (when b part (Err (OutOfRange (start + q)))) after
      go true part after e = e
      go false part after e = refl

  -- The numbers from q on, counted from 0.
  pub failing_from : (left q j : ℕ) → first_failing (λ i. ok (q + i)) (start + q) left j ≡ first_failing ok start left (q + j)
  failing_from zero q j = refl
  failing_from (suc left) q j = rw (add_assoc start q j, failing_from left q (j + 1), ← add_assoc q j 1)

  -- All pass where the first does and all after it.
  one_more : (left q : ℕ) → ok q ≡ true → ((j : ℕ) → j < left → ok (q + 1 + j) ≡ true) → (j : ℕ) → j < suc left → ok (q + j) ≡ true
  one_more left q e all zero h = rw add-zero e
  one_more left q e all (suc j) h = let same : q + suc j ≡ q + 1 + j = omega arith in rw same (all j (omega arith))

  one_less : (left q : ℕ) → ((j : ℕ) → j < suc left → ok (q + j) ≡ true) → (j : ℕ) → j < left → ok (q + 1 + j) ≡ true
  one_less left q all j h = let same : q + 1 + j ≡ q + suc j = omega arith in rw same (all (suc j) (omega arith))

  -- None fails exactly where all pass.
  pub failing_none : (left q : ℕ) → (first_failing ok start left q ≡ Ok tt) ↔ ((j : ℕ) → j < left → ok (q + j) ≡ true)
  failing_none zero q = (λ e j h. absurd (omega arith), λ h. refl)
  failing_none (suc left) q = go (ok q) refl (failing_none left (q + 1))
    where
      go : (b : Bool) → ok q ≡ b → (first_failing ok start left (q + 1) ≡ Ok tt) ↔ ((j : ℕ) → j < left → ok (q + 1 + j) ≡ true) → (when b (first_failing ok start left (q + 1)) (Err (OutOfRange (start + q))) ≡ Ok tt) ↔ ((j : ℕ) → j < suc left → ok (q + j) ≡ true)
      go true e rest = (λ h. one_more left q e (rest.0 h), λ all. rest.1 (one_less left q all))
      go false e rest = (
        λ h. absurd (let z : ◌≡◌ {A = ℕ} 0 1 = cc in omega arith),
        λ all. absurd (let first : ok q ≡ true = rw add-zero at (all 0 (omega arith)) in let z : ◌≡◌ {A = ℕ} 0 1 = cc in omega arith),
      )

-- The same numbers fail two tests that agree.
pub failing_same : (ok ok' : ℕ → Bool) (start left q : ℕ) → ((j : ℕ) → q ≤ j → j < q + left → ok j ≡ ok' j) → first_failing ok start left q ≡ first_failing ok' start left q
failing_same ok ok' start zero q h = refl
failing_same ok ok' start (suc left) q h =
    rw (h q (omega arith) (omega arith), failing_same ok ok' start left (q + 1) (λ j low high. h j (omega arith) (omega arith)))
