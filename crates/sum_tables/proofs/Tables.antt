-- The sums in fields, put into the array one after the other. Assumes nothing.
use mathlib.Core.Path.{◌≡◌, refl, ◌∙◌, ap}
use mathlib.Core.Logic.{by_cases}
use mathlib.Core.List.{List}
use Prim.Native.Nat.{ℕ, ◌+◌, ◌*◌, ◌/◌, ◌%◌, ◌≤◌, ◌<◌}
use native.Mathlib.Nat.{mul-le-mul, add_assoc}
use native.Mathlib.Numerals.{lt_of_le_of_ne}
use native.Mathlib.Decide.{ℕ_discrete}
use native.Mathlib.Omega.{arith}
use lib.Arith.{digits_lt, digits_div, digits_mod}
use lib.Dec.{T, lit≤}
use lib.ListN.{length, get_or, take, drop, set, replicate, length-replicate, length-set}
use lib.Seq.{get_or-take, get_or-drop, get_or-set_same, get_or-set_other}
use Rattle.finite.proofs.Fits.{run_end}
use Rattle.galois.specs.Levels.{over_field, level_sum}
use Rattle.galois.proofs.Levels.{over_each}
use Rattle.sum_tables.specs.Tables.{FieldSums, FieldTables, SameBefore, Summable}

-- the fields are those of 4, 8 and 9 elements
pub over_from : (s : ℕ) → T (over_field s) → 4 ≤ s
over_from = over_each (λ s. 4 ≤ s) (lit≤ tt) (lit≤ tt) (lit≤ tt)

pub over_to : (s : ℕ) → T (over_field s) → s ≤ 9
over_to = over_each (λ s. s ≤ 9) (lit≤ tt) (lit≤ tt) (lit≤ tt)

pub squares_to : (s : ℕ) → T (over_field s) → s * s ≤ 81
squares_to s over = mul-le-mul (over_to s over) (over_to s over)

-- n sums in the field of s elements are put, and what stood before them stays
pub record Putting (s n : ℕ) (before sums : List ℕ) : Type 0 where
  pub places : length sums ≡ 810
  pub put : FieldSums s n sums
  pub same : SameBefore (s * 81) before sums

pub putting_none : (s : ℕ) {sums : List ℕ} → length sums ≡ 810 → Putting s 0 sums sums
unfolding SameBefore
putting_none s {sums} e = record { places = e; put = λ q h. absurd (omega arith); same = λ k h. refl }

pub putting_more : {s n value : ℕ} {before sums : List ℕ} → T (over_field s) → Putting s n before sums → n < s * s → value ≡ level_sum s (n / s) (n % s)
    → Putting s (n + 1) before (set sums (s * 81 + n) value)
unfolding SameBefore
putting_more {s} {n} {value} {before} {sums} over w h is =
    record {
      places = length-set sums (s * 81 + n) value ∙ w.places;
      put = λ q l.
          by_cases (ℕ_discrete q n)
          (λ (same : q ≡ n). rw same (get_or-set_same sums (s * 81 + n) value 0 (omega (arith, w.places, over_to s over, squares_to s over)) ∙ is))
          (λ (other : q ≡ n → ⊥).
          get_or-set_other sums (s * 81 + n) (s * 81 + q) value 0 (λ e. other (omega (arith, e)))
          ∙ w.put q (lt_of_le_of_ne (omega (arith, l)) other));
      same = λ k l. get_or-set_other sums (s * 81 + n) k value 0 (λ e. omega (arith, e, l)) ∙ w.same k l;
    }

-- ---- field by field

pub tables_none : (widths : List ℕ) → FieldTables widths 4 (replicate 810 0)
tables_none widths =
    record { places = length-replicate {A = ℕ} 810 0; served = λ s h over some. absurd (omega (arith, over_from s over)) }

-- a number that is no field's, or that no matrix serves
pub tables_without : {widths : List ℕ} {s : ℕ} {sums : List ℕ} → FieldTables widths s sums → (T (over_field s) → 0 < get_or widths s 0 → ⊥)
    → FieldTables widths (s + 1) sums
tables_without {widths} {s} {sums} w none =
    record {
      places = w.places;
      served = λ r h over some.
          by_cases (ℕ_discrete r s)
          (λ (same : r ≡ s). absurd (none (rw same at over) (rw same at some)))
          (λ (other : r ≡ s → ⊥). w.served r (lt_of_le_of_ne (omega (arith, h)) other) over some);
    }

pub tables_more : {widths : List ℕ} {s : ℕ} {before sums : List ℕ} → FieldTables widths s before → length sums ≡ 810
    → FieldSums s (s * s) sums → SameBefore (s * 81) before sums → FieldTables widths (s + 1) sums
unfolding SameBefore
tables_more {widths} {s} {before} {sums} w places put same =
    record {
      places = places;
      served = λ r h over some.
          by_cases (ℕ_discrete r s)
          (λ (e : r ≡ s). rw e put)
          (λ (other : r ≡ s → ⊥).
          let less : r < s = lt_of_le_of_ne (omega (arith, h)) other in
          λ q l. same (r * 81 + q) (omega (arith, l, squares_to r over)) ∙ w.served r less over some q l);
    }

-- ---- looked up

-- the sums of a level with each of the field's elements stand within the array
pub row_within : (p : ℕ) {level : ℕ} → T (over_field p) → level < p → p * 81 + level * p + p ≤ 810
row_within p {level} over h = omega (arith, run_end level p h (squares_to p over), over_to p over)

pub row_has : (p level : ℕ) (sums : List ℕ) → FieldSums p (p * p) sums → level < p → {b : ℕ} → b < p
    → get_or (take p (drop (p * 81 + level * p) sums)) b 0 ≡ level_sum p level b
row_has p level sums stand h {b} hb =
    rw (get_or-take, get_or-drop)
    (ap (λ (k : ℕ). get_or sums k 0) (add_assoc (p * 81) (level * p) b)
    ∙ stand (level * p + b) (digits_lt h hb)
    ∙ rw (digits_div level hb, digits_mod level hb))

-- where a matrix serves s, its sums are there
pub summable : {widths sums : List ℕ} → FieldTables widths 10 sums → (s : ℕ) → Summable s (get_or widths s 0) sums
summable tables s =
    record { places = tables.places; there = λ over some. tables.served s (omega (arith, over_to s over)) over some }
