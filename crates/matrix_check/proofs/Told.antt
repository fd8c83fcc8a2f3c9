-- A sum tells a difference: where the difference and the second of two entries make the first. Assumes nothing.
use mathlib.Core.Path.{◌≡◌, sym, ◌∙◌, ap}
use mathlib.Core.List.{List}
use mathlib.Core.Logic.{by_cases}
use Prim.Native.Nat.{ℕ, ◌+◌, ◌*◌, ◌/◌, ◌%◌, ◌≤◌, ◌<◌}
use native.Mathlib.Nat.{mod-lt, lt_of_lt_of_le, div-lt_iff_lt-mul, div-add-mod'}
use native.Mathlib.Numerals.{lt_of_le_of_ne}
use native.Mathlib.Decide.{ℕ_discrete}
use native.Mathlib.Omega.{arith}
use lib.Arith.{digits_lt, digits_div, digits_mod}
use lib.ListN.{length, get_or, set, replicate, length-replicate, length-set}
use lib.Seq.{get_or-set_same, get_or-set_other}
use Rattle.galois.specs.Levels.{level_sum, level_difference}
use Rattle.galois.proofs.Derived.{cancel_right}
use Rattle.galois.proofs.Levels.{level_group, level_restores, level_difference_below}
use Rattle.matrix_check.specs.Differences.{DifferencesOf}

-- where sum number q, that of q / p and q % p, has its difference
abbrev pub told_at : ℕ → ℕ → ℕ
told_at p q = level_sum p (q / p) (q % p) * p + q % p

-- the first n sums have told theirs
pub record Told (p n : ℕ) (differences : List ℕ) : Type 0 where
  pub places : length differences ≡ 4096
  pub each : (q : ℕ) → q < n → get_or differences (told_at p q) 0 ≡ q / p

pub told_none : (p : ℕ) → Told p 0 (replicate 4096 0)
told_none p = record { places = length-replicate {A = ℕ} 4096 0; each = λ q h. absurd (omega arith) }

module _ {p : ℕ} (positive : 0 < p) where
  quotient_below : {q : ℕ} → q < p * p → q / p < p
  quotient_below h = (div-lt_iff_lt-mul positive).1 h

  pub told_in : {q : ℕ} → q < p * p → told_at p q < p * p
  told_in {q} h = digits_lt ((level_group p positive).sums.closed (quotient_below h) (mod-lt q positive)) (mod-lt q positive)

  -- no place is told two differences
  told_once : {q r : ℕ} → q < p * p → r < p * p → told_at p q ≡ told_at p r → q / p ≡ r / p
  told_once {q} {r} h k e =
      let second : q % p ≡ r % p = sym (digits_mod _ (mod-lt q positive)) ∙ ap (λ n. n % p) e ∙ digits_mod _ (mod-lt r positive) in
      let first : level_sum p (q / p) (q % p) ≡ level_sum p (r / p) (r % p) =
      sym (digits_div _ (mod-lt q positive)) ∙ ap (λ n. n / p) e ∙ digits_div _ (mod-lt r positive)
      in
      cancel_right
      (level_group p positive)
      (quotient_below h)
      (quotient_below k)
      (mod-lt q positive)
      (first ∙ ap (level_sum p (r / p)) (sym second))

  pub told_more : {n : ℕ} {differences : List ℕ} → Told p n differences → n < p * p → p * p ≤ 4096
      → Told p (n + 1) (set differences (told_at p n) (n / p))
  told_more {n} {differences} told h few =
      record {
        places = length-set differences (told_at p n) (n / p) ∙ told.places;
        each = λ q l.
            by_cases (ℕ_discrete (told_at p q) (told_at p n))
            (λ (same : told_at p q ≡ told_at p n).
            rw same (get_or-set_same differences (told_at p n) (n / p) 0 (rw told.places (lt_of_lt_of_le (told_in h) few)))
            ∙ told_once h (omega arith) (sym same))
            (λ (other : told_at p q ≡ told_at p n → ⊥).
            get_or-set_other differences (told_at p n) (told_at p q) (n / p) 0 other
            ∙ told.each q (lt_of_le_of_ne (omega (arith, l)) (λ (e : q ≡ n). other (ap (told_at p) e))));
      }

  -- all differences are told
  pub told_all : {differences : List ℕ} → Told p (p * p) differences → DifferencesOf p (p * p) differences
  told_all {differences} told =
      record {
        places = told.places;
        each = λ q h.
            let y : q % p < p = mod-lt q positive in
            let d : level_difference p (q / p) (q % p) < p = level_difference_below p (q / p) (q % p) positive in
            let at : told_at p (level_difference p (q / p) (q % p) * p + q % p) ≡ q =
            rw (digits_div _ y, digits_mod _ y, level_restores p (quotient_below h) y) (div-add-mod' q p)
            in
            ap (λ (k : ℕ). get_or differences k 0) (sym at) ∙ told.each _ (digits_lt d y) ∙ digits_div _ y;
      }
