-- The values of a function in an array, put there one after the other.
-- Assumes nothing.
use mathlib.Core.Path.{◌≡◌, ◌∙◌}
use mathlib.Core.Logic.{by_cases}
use mathlib.Core.List.{List}
use Prim.Native.Nat.{ℕ, ◌+◌, ◌*◌, ◌/◌, ◌%◌, ◌<◌}
use native.Mathlib.Numerals.{lt_of_le_of_ne}
use native.Mathlib.Decide.{ℕ_discrete}
use native.Mathlib.Omega.{arith}
use lib.Arith.{digits_lt, digits_div, digits_mod}
use lib.ListN.{get_or, set, length-set}
use lib.Seq.{get_or-set_same, get_or-set_other}
use Rattle.finite.specs.Tabulated.{Tabulated}

-- one value more
pub tabulated_more : {f : ℕ → ℕ} {n value : ℕ} {values : List ℕ} → Tabulated f n values → n < 4096 → value ≡ f n
    → Tabulated f (n + 1) (set values n value)
tabulated_more {f} {n} {value} {values} t fits is =
    record {
      places = length-set values n value ∙ t.places;
      each = λ q h.
          by_cases (ℕ_discrete q n)
          (λ (same : q ≡ n). rw same (get_or-set_same values n value 0 (rw t.places fits) ∙ is))
          (λ (other : q ≡ n → ⊥). get_or-set_other values n q value 0 other ∙ t.each q (lt_of_le_of_ne (omega (arith, h)) other));
    }

-- a function of two numbers below m, at m times the first plus the second
pub looked_up : (g : ℕ → ℕ → ℕ) (m : ℕ) {values : List ℕ} → Tabulated (λ q. g (q / m) (q % m)) (m * m) values
    → {x y : ℕ} → x < m → y < m → get_or values (x * m + y) 0 ≡ g x y
looked_up g m t {x} {y} hx hy = t.each (x * m + y) (digits_lt hx hy) ∙ rw (digits_div x hy, digits_mod x hy)
