-- In how many tuples over a field two combinations are equal: one in s, where their lists differ. By induction on the length: while the rest
-- of the lists differ, each first coordinate leaves one in s; where the rest agrees, the first coordinate has one value.
-- Assumes nothing.
use mathlib.Core.Path.{◌≡◌, refl, sym, ◌∙◌, ap, ap₂, subst}
use mathlib.Core.Logic.{◌≢◌, by_cases}
use mathlib.Core.Bool.{Bool}
use mathlib.Core.List.{List, ◌∷◌, map, List-discrete}
use Prim.Native.Nat.{ℕ, suc, ◌+◌, ◌*◌, ◌^◌, ◌<◌}
use native.Mathlib.Nat.{suc_inj, pow-succ', mul_comm}
use native.Mathlib.Decide.{ℕ_discrete}
use native.Mathlib.Omega.{arith}
use lib.Dec.{eqb}
use lib.ListN.{length, length-map}
use Rattle.finite.specs.Sum.{sum, count, bit}
use Rattle.finite.specs.Digits.{digits}
use Rattle.finite.proofs.Tests.{eqb_agree}
use Rattle.finite.proofs.Sums.{sum_ext, sum_const, sum_mul, sum_single}
use Rattle.finite.proofs.Counts.{count_ext, count_product, count_const}
use Rattle.finite.proofs.Lists.{Below, none, more, below_map}
use Rattle.finite.proofs.Digits.{digits_below, digits_cons}
use Rattle.galois.specs.Laws.{Field}
use Rattle.galois.specs.Combination.{combination}
use Rattle.galois.proofs.FieldAlgebra.{zero_below, sum_below, product_below, zero_plus, plus_zero, plus_assoc, cancel_right, solution, solution_below, solved, combination_below, zero_elements}

-- a count over the s ^ (n + 1) tuples, by the first coordinate
count_first : (s n : ℕ) (f : ℕ → Bool) → count (s ^ suc n) f ≡ sum s (λ x. count (s ^ n) (λ r. f (x * s ^ n + r)))
count_first s n f = rw (pow-succ' s n) (count_product s (s ^ n) f)

module _ {s : ℕ} {◌⊕◌ ◌⊗◌ : ℕ → ℕ → ℕ} (F : Field s ◌⊕◌ ◌⊗◌) where
  infixl 65 ◌⊕◌
  infixl 70 ◌⊗◌
  infix 75 ◌·◌
  abbrev ◌·◌ : List ℕ → List ℕ → ℕ
  ks · xs = combination ◌⊕◌ ◌⊗◌ ks xs

  -- p + x · u is q + x · v, for the tuple x of number r
  abbrev meets : ℕ → ℕ → List ℕ → List ℕ → ℕ → Bool
  meets p q u v r = eqb (p ⊕ digits s (length u) r · u) (q ⊕ digits s (length u) r · v)

  -- lists one element longer
  module _ {a b p q : ℕ} {u : List ℕ} (ha : a < s) (hb : b < s) (bu : Below s u) (hp : p < s) (hq : q < s) where
    -- the first coordinate x joins p and q
    meets_first : {v : List ℕ} → Below s v → {x r : ℕ} → x < s → r < s ^ length u
        → meets p q (a ∷ u) (b ∷ v) (x * s ^ length u + r) ≡ meets (p ⊕ x ⊗ a) (q ⊕ x ⊗ b) u v r
    unfolding combination
    meets_first bv {x} {r} hx hr =
        let bd = digits_below (zero_below F) (length u) r in
        rw (digits_cons (zero_below F) (length u) hx hr)
        (ap₂ eqb
        (sym (plus_assoc F hp (product_below F hx ha) (combination_below F bd bu)))
        (sym (plus_assoc F hq (product_below F hx hb) (combination_below F bd bv))))

    count_meets : {v : List ℕ} → Below s v
        → count (s ^ suc (length u)) (meets p q (a ∷ u) (b ∷ v)) ≡ sum s (λ x. count (s ^ length u) (meets (p ⊕ x ⊗ a) (q ⊕ x ⊗ b) u v))
    count_meets {v} bv =
        count_first s (length u) (meets p q (a ∷ u) (b ∷ v))
        ∙ sum_ext s (λ x hx. count_ext (s ^ length u) (λ r hr. meets_first bv hx hr))

    -- where the rest of the lists agrees, x is the solution of an equation
    meets_solution : a ≢ b → {x : ℕ} → x < s → (r : ℕ) → meets (p ⊕ x ⊗ a) (q ⊕ x ⊗ b) u u r ≡ eqb (solution F p q a b) x
    meets_solution different {x} hx r =
        let solves = solved F hp hq ha hb different hx in
        let hd = combination_below F (digits_below (zero_below F) (length u) r) bu in
        eqb_agree _ _ (solution F p q a b) x
        (λ e. sym (solves.0 (cancel_right F (sum_below F hp (product_below F hx ha)) (sum_below F hq (product_below F hx hb)) hd e)))
        (λ e. ap (λ y. y ⊕ digits s (length u) r · u) (solves.1 (sym e)))

    count_solution : a ≢ b → sum s (λ x. count (s ^ length u) (meets (p ⊕ x ⊗ a) (q ⊕ x ⊗ b) u u)) ≡ s ^ length u
    count_solution different =
        sum_ext s (λ x hx.
        count_ext (s ^ length u) (λ r h. meets_solution different hx r)
        ∙ count_const (s ^ length u) (eqb (solution F p q a b) x)
        ∙ mul_comm (s ^ length u) (bit (eqb (solution F p q a b) x)))
        ∙ sum_single s (solution F p q a b) (λ x. s ^ length u) (solution_below F hp hq ha hb)

  -- Two different lists have equal combinations in one of s tuples, whatever is added to either.
  balanced : {u v : List ℕ} {p q : ℕ} → length u ≡ length v → u ≢ v → Below s u → Below s v → p < s → q < s
      → s * count (s ^ length u) (meets p q u v) ≡ s ^ length u
  balanced e d none none hp hq = absurd (d refl)
  balanced e d none (more hb bv) hp hq = omega arith
  balanced e d (more ha bu) none hp hq = omega arith
  balanced {p} {q} e d (more {x = a} {xs = u} ha bu) (more {x = b} {xs = v} hb bv) hp hq =
      rw (count_meets ha hb bu hp hq bv, pow-succ' s (length u))
      (by_cases (List-discrete ℕ_discrete u v)
      (λ agrees. rw (← agrees) (ap (λ n. s * n) (count_solution ha hb bu hp hq (λ f. d (ap₂ ◌∷◌ f agrees)))))
      (λ differs.
      sym (sum_mul s s (λ x. count (s ^ length u) (meets (p ⊕ x ⊗ a) (q ⊕ x ⊗ b) u v)))
      ∙ sum_ext s (λ x hx. balanced (suc_inj e) differs bu bv (sum_below F hp (product_below F hx ha)) (sum_below F hq (product_below F hx hb)))
      ∙ sum_const s (s ^ length u)))

  -- the same for lists of a given length
  balanced_at : {n : ℕ} {u v : List ℕ} {p q : ℕ} → length u ≡ n → length v ≡ n → u ≢ v → Below s u → Below s v → p < s → q < s
      → s * count (s ^ n) (λ r. eqb (p ⊕ digits s n r · u) (q ⊕ digits s n r · v)) ≡ s ^ n
  balanced_at {u} {v} {p} {q} eu ev d bu bv hp hq =
      subst (λ n. s * count (s ^ n) (λ r. eqb (p ⊕ digits s n r · u) (q ⊕ digits s n r · v)) ≡ s ^ n) eu
      (balanced (eu ∙ sym ev) d bu bv hp hq)

  -- two different lists have equal combinations in one of s tuples
  pub count_equal : {n : ℕ} {u v : List ℕ} → length u ≡ n → length v ≡ n → u ≢ v → Below s u → Below s v
      → s * count (s ^ n) (λ r. eqb (digits s n r · u) (digits s n r · v)) ≡ s ^ n
  count_equal {n} eu ev d bu bv =
      ap (λ c. s * c)
      (count_ext (s ^ n) (λ r h.
      let bd = digits_below (zero_below F) n r in
      sym (ap₂ eqb (zero_plus F (combination_below F bd bu)) (zero_plus F (combination_below F bd bv)))))
      ∙ balanced_at eu ev d bu bv (zero_below F) (zero_below F)

  -- the combinations of a list that is not all zeros take each value in one of s tuples
  pub count_value : {m n : ℕ} {rs u : List ℕ} {q : ℕ} → Below m rs → length rs ≡ n → length u ≡ n → u ≢ map (λ r. 0) rs → Below s u → q < s
      → s * count (s ^ n) (λ r. eqb (digits s n r · u) q) ≡ s ^ n
  count_value {n} {rs} {q} br er eu d bu hq =
      ap (λ c. s * c)
      (count_ext (s ^ n) (λ r h.
      let bd = digits_below (zero_below F) n r in
      sym (ap₂ eqb (zero_plus F (combination_below F bd bu)) (ap (λ y. q ⊕ y) (zero_elements F bd rs) ∙ plus_zero F hq))))
      ∙ balanced_at eu (length-map rs (λ r. 0) ∙ er) d bu (below_map (λ r h. zero_below F) br) (zero_below F) hq
