-- The numbers below p are an abelian group under addition modulo p, for every p. Assumes nothing.
use mathlib.Core.Path.{◌∙◌, ap}
use Prim.Native.Nat.{ℕ, ◌+◌, ◌-◌, ◌%◌, ◌<◌}
use native.Mathlib.Nat.{add_assoc, add_comm, zero-add, mod-lt, mod-eq_of_lt, mod_self, mod-add-mod, add-mod-mod, add-sub_of_le, le_of_lt}
use Rattle.galois.specs.Laws.{AbelianGroup}

pub modulo : (p : ℕ) → 0 < p → AbelianGroup p (λ a b. (a + b) % p)
modulo p positive =
    record {
      sums =
          record {
            neutral_below = positive;
            closed = λ {a} {b} _ _. mod-lt (a + b) positive;
            commutes = λ {a} {b} _ _. ap (λ (n : ℕ). n % p) (add_comm a b);
            associates = λ {a} {b} {c} _ _ _. simp (mod-add-mod, add-mod-mod, add_assoc);
            neutral_left = λ {a} h. ap (λ (n : ℕ). n % p) (zero-add a) ∙ mod-eq_of_lt h;
          };
      opposite = λ a. (p - a) % p;
      opposite_below = λ {a} _. mod-lt (p - a) positive;
      opposite_cancels = λ {a} h. add-mod-mod a (p - a) p ∙ ap (λ (n : ℕ). n % p) (add-sub_of_le (le_of_lt h)) ∙ mod_self p;
    }
