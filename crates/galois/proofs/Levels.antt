-- In any abelian group a difference is what, added to the second, gives the first. The sums that go with p make such a group: those of the fields of
-- 4, 8 and 9 elements, and those modulo p for every other p. Assumes nothing.
use mathlib.Core.Path.{◌≡◌, refl, sym, ◌∙◌, ap, subst, subst⁻¹}
use mathlib.Core.Bool.{Bool, true, false, cond, ◌||◌}
use mathlib.Core.Logic.{⊎_elim}
use Prim.Native.Nat.{ℕ, zero, suc, ◌+◌, ◌-◌, ◌%◌, ◌≤◌, ◌<◌}
use native.Mathlib.Nat.{eq-or-lt_of_le, le_of_suc-le-suc, not-suc-le-zero, mod-lt, mod-eq_of_lt, mod-add-mod, add-mod_right}
use native.Mathlib.Omega.{arith}
use borrow.Author.Tests.{eq-eqb}
use lib.Dec.{T, eqb}
use mir.Facts.{or_yes, eqb_yes}
use Rattle.finite.proofs.Tests.{eqb_agree}
use Rattle.galois.specs.Arithmetic.{field_size, field_sum}
use Rattle.galois.specs.Levels.{find, difference_in, over_field, level_sum, level_difference}
use Rattle.galois.specs.Laws.{AbelianGroup}
use Rattle.galois.proofs.Derived.{subtract_add, cancel_right}
use Rattle.galois.proofs.Fields.{field}
use Rattle.galois.proofs.Modulo.{modulo}

-- ---- what is found

-- where a test passes at some number, it passes at the one that is found
found : (n : ℕ) (f : ℕ → Bool) {v : ℕ} → v < n → T (f v) → T (f (find n f))
found zero f h t = absurd (not-suc-le-zero h)
found (suc n) f {v} h t = pick (λ l. found n f l t) (f n) refl
  where
    pick : (v < n → T (f (find n f))) → (b : Bool) → f n ≡ b → T (f (cond b n (find n f)))
    pick earlier true e = subst⁻¹ T e tt
    pick earlier false e =
        ⊎_elim (λ (same : v ≡ n). absurd (subst T (ap f same ∙ e) t)) earlier (eq-or-lt_of_le (le_of_suc-le-suc h))

found_most : (n : ℕ) (f : ℕ → Bool) → find n f ≤ n - 1
found_most zero f = omega arith
found_most (suc n) f = pick (found_most n f) (f n)
  where
    pick : find n f ≤ n - 1 → (b : Bool) → cond b n (find n f) ≤ suc n - 1
    pick most true = omega arith
    pick most false = omega arith

found_below : (n : ℕ) (f : ℕ → Bool) → 0 < n → find n f < n
found_below n f h = omega (arith, found_most n f)

-- ---- differences in any abelian group

pub difference_below : {n : ℕ} (plus : ℕ → ℕ → ℕ) (a b : ℕ) → 0 < n → difference_in n plus a b < n
unfolding difference_in
difference_below {n} plus a b h = found_below n _ h

module _ {n : ℕ} {plus : ℕ → ℕ → ℕ} (group : AbelianGroup n plus) {a b : ℕ} (ha : a < n) (hb : b < n) where
  -- a difference is what, added to the second, gives the first
  pub difference_restores : plus (difference_in n plus a b) b ≡ a
  unfolding difference_in
  difference_restores =
      eqb_yes
      (found n (λ v. eqb (plus v b) a)
      (group.sums.closed ha (group.opposite_below hb))
      (subst⁻¹ T (eq-eqb _ a (subtract_add group ha hb)) tt))

  -- and nothing else is
  pub difference_only : {v : ℕ} → v < n → plus v b ≡ a → difference_in n plus a b ≡ v
  difference_only h e =
      cancel_right group (difference_below plus a b group.sums.neutral_below) h hb (difference_restores ∙ sym e)

  -- the same as tests
  pub difference_is : {v : ℕ} → v < n → eqb (plus v b) a ≡ eqb (difference_in n plus a b) v
  difference_is {v} h =
      eqb_agree
      (plus v b)
      a
      (difference_in n plus a b)
      v
      (difference_only h)
      (λ e. ap (λ x. plus x b) (sym e) ∙ difference_restores)

-- ---- the group that goes with p

-- what holds of 4, 8 and 9 holds of each p whose sums are a field's
pub over_each : (P : ℕ → Type 0) → P 4 → P 8 → P 9 → (p : ℕ) → T (over_field p) → P p
unfolding over_field
over_each P four eight nine p over =
    ⊎_elim
    (λ t. ⊎_elim (is four) (is eight) (or_yes (eqb p 4) (eqb p 8) t))
    (is nine)
    (or_yes (eqb p 4 || eqb p 8) (eqb p 9) over)
  where
    is : {n : ℕ} → P n → T (eqb p n) → P p
    is {n} holds e = let same : p ≡ n = eqb_yes e in subst⁻¹ P same holds

pub over_size : (p : ℕ) → T (over_field p) → T (field_size p)
unfolding field_size
over_size = over_each (λ p. T (field_size p)) tt tt tt

pub level_group : (p : ℕ) → 0 < p → AbelianGroup p (level_sum p)
unfolding level_sum
level_group p positive = pick (over_field p) refl
  where
    pick : (over : Bool) → over_field p ≡ over → AbelianGroup p (λ a b. cond over (field_sum p a b) ((a + b) % p))
    pick true e = (field p (over_size p (subst⁻¹ T e tt))).group
    pick false e = modulo p positive

-- for every p a difference is what, added to the second, gives the first
pub level_restores : (p : ℕ) {a b : ℕ} → a < p → b < p → level_sum p (level_difference p a b) b ≡ a
unfolding level_difference
level_restores p ha hb = difference_restores (level_group p (omega arith)) ha hb

pub level_difference_below : (p a b : ℕ) → 0 < p → level_difference p a b < p
unfolding level_difference
level_difference_below p a b h = difference_below (level_sum p) a b h

module _ (p a b : ℕ) where
  pub sum_over : over_field p ≡ true → level_sum p a b ≡ field_sum p a b
  unfolding level_sum
  sum_over e = rw e refl

  -- "Every other p stays modulo p."
  pub sum_modulo : over_field p ≡ false → level_sum p a b ≡ (a + b) % p
  unfolding level_sum
  sum_modulo e = rw e refl

  pub difference_modulo : over_field p ≡ false → a < p → b < p → level_difference p a b ≡ (a + (p - b)) % p
  unfolding level_difference level_sum
  difference_modulo e ha hb =
      difference_only
      (level_group p (omega arith))
      ha
      hb
      (mod-lt (a + (p - b)) (omega arith))
      (rw e (mod-add-mod (a + (p - b)) p b ∙ ap (λ (n : ℕ). n % p) (whole ha hb) ∙ add-mod_right a p ∙ mod-eq_of_lt ha))
    where
      whole : a < p → b < p → a + (p - b) + b ≡ a + p
      whole h k = omega arith
