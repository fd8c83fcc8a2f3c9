-- What follows from the laws of a field: cancelling, the linear equation in one unknown, and how combinations join, add, scale and exchange.
-- Assumes nothing.
use mathlib.Core.Path.{◌≡◌, refl, sym, ◌∙◌, ap, ap₂}
use mathlib.Core.Logic.{◌↔◌, ◌≢◌}
use mathlib.Core.List.{List, [], ◌∷◌, ◌++◌, map}
use Prim.Native.Nat.{ℕ, zero, suc, ◌<◌}
use native.Mathlib.Nat.{pos_of_ne-zero, suc_inj, suc-ne-zero}
use lib.ListN.{length, replicate}
use Rattle.finite.proofs.Lists.{Below, none, more, below_map}
use Rattle.galois.specs.Laws.{CommutativeMonoid, Field}
use Rattle.galois.specs.Combination.{combination}
use Rattle.galois.proofs.Derived.{add_subtract, subtract_add, times_zero}

-- sums and products alike
module _ {n neutral : ℕ} {◌∗◌ : ℕ → ℕ → ℕ} (M : CommutativeMonoid n neutral ◌∗◌) where
  infixl 65 ◌∗◌
  pub unit_right : {a : ℕ} → a < n → a ∗ neutral ≡ a
  unit_right h = M.commutes h M.neutral_below ∙ M.neutral_left h

  pub left_comm : {a b c : ℕ} → a < n → b < n → c < n → a ∗ (b ∗ c) ≡ b ∗ (a ∗ c)
  left_comm {c} ha hb hc = sym (M.associates ha hb hc) ∙ ap (λ x. x ∗ c) (M.commutes ha hb) ∙ M.associates hb ha hc

  pub exchange_middle : {a b c d : ℕ} → a < n → b < n → c < n → d < n → a ∗ b ∗ (c ∗ d) ≡ a ∗ c ∗ (b ∗ d)
  exchange_middle {a} ha hb hc hd =
      M.associates ha hb (M.closed hc hd) ∙ ap (λ x. a ∗ x) (left_comm hb hc hd) ∙ sym (M.associates ha hc (M.closed hb hd))

module _ {s : ℕ} {◌⊕◌ ◌⊗◌ : ℕ → ℕ → ℕ} (F : Field s ◌⊕◌ ◌⊗◌) where
  infixl 65 ◌⊕◌
  infixl 65 ◌⊖◌
  infixl 70 ◌⊗◌
  infix 75 ◌·◌
  pub zero_below : 0 < s
  zero_below = F.group.sums.neutral_below

  pub sum_below : {a b : ℕ} → a < s → b < s → a ⊕ b < s
  sum_below = F.group.sums.closed

  pub product_below : {a b : ℕ} → a < s → b < s → a ⊗ b < s
  product_below = F.products.closed

  pub zero_plus : {a : ℕ} → a < s → 0 ⊕ a ≡ a
  zero_plus = F.group.sums.neutral_left

  pub plus_zero : {a : ℕ} → a < s → a ⊕ 0 ≡ a
  plus_zero = unit_right F.group.sums

  pub plus_assoc : {a b c : ℕ} → a < s → b < s → c < s → a ⊕ b ⊕ c ≡ a ⊕ (b ⊕ c)
  plus_assoc = F.group.sums.associates

  plus_comm : {a b : ℕ} → a < s → b < s → a ⊕ b ≡ b ⊕ a
  plus_comm = F.group.sums.commutes

  -- ---- differences, and products with zero

  ◌⊖◌ : ℕ → ℕ → ℕ
  a ⊖ b = a ⊕ F.group.opposite b

  difference_below : {a b : ℕ} → a < s → b < s → a ⊖ b < s
  unfolding ◌⊖◌
  difference_below ha hb = sum_below ha (F.group.opposite_below hb)

  plus_minus : {a b : ℕ} → a < s → b < s → a ⊕ b ⊖ b ≡ a
  unfolding ◌⊖◌
  plus_minus = add_subtract F.group

  minus_plus : {a b : ℕ} → a < s → b < s → a ⊖ b ⊕ b ≡ a
  unfolding ◌⊖◌
  minus_plus = subtract_add F.group

  pub cancel_right : {a b c : ℕ} → a < s → b < s → c < s → a ⊕ c ≡ b ⊕ c → a ≡ b
  cancel_right {c} ha hb hc e = sym (plus_minus ha hc) ∙ ap (λ x. x ⊖ c) e ∙ plus_minus hb hc

  zero_times : {a : ℕ} → a < s → 0 ⊗ a ≡ 0
  zero_times h = F.products.commutes zero_below h ∙ times_zero F h

  -- ---- the linear equation in one unknown

  -- x times d is e where x is e over d, for a d that is not zero
  quotient : {d e x : ℕ} → d ≢ 0 → d < s → e < s → x < s → (x ⊗ d ≡ e) ↔ (x ≡ e ⊗ F.inverse d)
  quotient {d} {e} {x} nonzero hd he hx = (λ p. sym (undone hx) ∙ ap (λ y. y ⊗ F.inverse d) p, λ p. ap (λ y. y ⊗ d) p ∙ done he)
    where
      hi : F.inverse d < s
      hi = F.inverse_below hd

      one : d ⊗ F.inverse d ≡ 1
      one = F.inverse_cancels (pos_of_ne-zero nonzero) hd

      undone : {a : ℕ} → a < s → a ⊗ d ⊗ F.inverse d ≡ a
      undone {a} h = F.products.associates h hd hi ∙ ap (λ y. a ⊗ y) one ∙ unit_right F.products h

      done : {a : ℕ} → a < s → a ⊗ F.inverse d ⊗ d ≡ a
      done {a} h = F.products.associates h hi hd ∙ ap (λ y. a ⊗ y) (F.products.commutes hi hd ∙ one) ∙ unit_right F.products h

  -- where p + x u is q + x v
  pub solution : ℕ → ℕ → ℕ → ℕ → ℕ
  solution p q u v = (q ⊖ p) ⊗ F.inverse (u ⊖ v)

  module _ {p q u v : ℕ} (hp : p < s) (hq : q < s) (hu : u < s) (hv : v < s) where
    pub solution_below : solution p q u v < s
    unfolding solution
    solution_below = product_below (difference_below hq hp) (F.inverse_below (difference_below hu hv))

    -- p + x u is p + x (u - v) + x v
    apart : {x : ℕ} → x < s → p ⊕ x ⊗ u ≡ p ⊕ x ⊗ (u ⊖ v) ⊕ x ⊗ v
    apart {x} hx =
        let hd = difference_below hu hv in
        ap (λ y. p ⊕ y) (ap (λ y. x ⊗ y) (sym (minus_plus hu hv)) ∙ F.distributes hx hd hv)
        ∙ sym (plus_assoc hp (product_below hx hd) (product_below hx hv))

    pub solved : u ≢ v → {x : ℕ} → x < s → (p ⊕ x ⊗ u ≡ q ⊕ x ⊗ v) ↔ (x ≡ solution p q u v)
    unfolding solution
    solved different {x} hx = (λ e. divide.0 (isolated e), λ e. apart hx ∙ ap (λ y. y ⊕ x ⊗ v) (joined (divide.1 e)))
      where
        hd : u ⊖ v < s
        hd = difference_below hu hv

        hxd : x ⊗ (u ⊖ v) < s
        hxd = product_below hx hd

        divide : (x ⊗ (u ⊖ v) ≡ q ⊖ p) ↔ (x ≡ (q ⊖ p) ⊗ F.inverse (u ⊖ v))
        divide =
            quotient (λ e. different (sym (minus_plus hu hv) ∙ ap (λ y. y ⊕ v) e ∙ zero_plus hv)) hd (difference_below hq hp) hx

        joined : x ⊗ (u ⊖ v) ≡ q ⊖ p → p ⊕ x ⊗ (u ⊖ v) ≡ q
        joined e = plus_comm hp hxd ∙ ap (λ y. y ⊕ p) e ∙ minus_plus hq hp

        isolated : p ⊕ x ⊗ u ≡ q ⊕ x ⊗ v → x ⊗ (u ⊖ v) ≡ q ⊖ p
        isolated e =
            cancel_right hxd (difference_below hq hp) hp
            (plus_comm hxd hp ∙ cancel_right (sum_below hp hxd) hq (product_below hx hv) (sym (apart hx) ∙ e) ∙ sym (minus_plus hq hp))

  -- ---- combinations

  abbrev ◌·◌ : List ℕ → List ℕ → ℕ
  ks · xs = combination ◌⊕◌ ◌⊗◌ ks xs

  pub combination_below : {ks xs : List ℕ} → Below s ks → Below s xs → ks · xs < s
  unfolding combination
  combination_below none x = zero_below
  combination_below (more h k) none = zero_below
  combination_below (more h k) (more l x) = sum_below (product_below h l) (combination_below k x)

  -- coefficients that are all zero
  pub zero_coefficients : (n : ℕ) {xs : List ℕ} → Below s xs → replicate n 0 · xs ≡ 0
  unfolding combination
  zero_coefficients zero x = refl
  zero_coefficients (suc n) none = refl
  zero_coefficients (suc n) (more h x) = ap₂ ◌⊕◌ (zero_times h) (zero_coefficients n x) ∙ zero_plus zero_below

  -- elements that are all zero
  pub zero_elements : {ks : List ℕ} → Below s ks → (rs : List ℕ) → ks · map (λ r. 0) rs ≡ 0
  unfolding combination
  zero_elements none rs = refl
  zero_elements (more h k) [] = refl
  zero_elements (more h k) (r ∷ rs) = ap₂ ◌⊕◌ (times_zero F h) (zero_elements k rs) ∙ zero_plus zero_below

  -- one list of coefficients and elements after another
  pub combination_append : {ks xs ls ys : List ℕ} → Below s ks → Below s xs → length ks ≡ length xs → Below s ls → Below s ys
      → (ks ++ ls) · (xs ++ ys) ≡ ks · xs ⊕ ls · ys
  unfolding combination
  combination_append none none e l y = sym (zero_plus (combination_below l y))
  combination_append none (more h x) e l y = absurd (suc-ne-zero _ (sym e))
  combination_append (more h k) none e l y = absurd (suc-ne-zero _ e)
  combination_append (more {x = a} ha k) (more {x = b} hb x) e l y =
      ap (λ z. a ⊗ b ⊕ z) (combination_append k x (suc_inj e) l y)
      ∙ sym (plus_assoc (product_below ha hb) (combination_below k x) (combination_below l y))

  -- opposite coefficients have the opposite combination
  opposite_product : {k x : ℕ} → k < s → x < s → F.group.opposite k ⊗ x ⊕ k ⊗ x ≡ 0
  opposite_product {k} {x} hk hx =
      let ho = F.group.opposite_below hk in
      ap₂ ◌⊕◌ (F.products.commutes ho hx) (F.products.commutes hk hx)
      ∙ sym (F.distributes hx ho hk)
      ∙ ap (λ z. x ⊗ z) (plus_comm ho hk ∙ F.group.opposite_cancels hk)
      ∙ times_zero F hx

  pub combination_opposite : {ks xs : List ℕ} → Below s ks → Below s xs → map F.group.opposite ks · xs ⊕ ks · xs ≡ 0
  unfolding combination
  combination_opposite none x = zero_plus zero_below
  combination_opposite (more h k) none = zero_plus zero_below
  combination_opposite (more h k) (more l x) =
      let ho = F.group.opposite_below h in
      exchange_middle F.group.sums
      (product_below ho l) (combination_below (below_map (λ a. F.group.opposite_below {a = a}) k) x) (product_below h l) (combination_below k x)
      ∙ ap₂ ◌⊕◌ (opposite_product h l) (combination_opposite k x)
      ∙ zero_plus zero_below

  module _ {n : ℕ} {f : ℕ → ℕ} (hf : (r : ℕ) → r < n → f r < s) where
    combination_scale : {a : ℕ} {ks rs : List ℕ} → a < s → Below s ks → Below n rs → ks · map (λ r. a ⊗ f r) rs ≡ a ⊗ ks · map f rs
    unfolding combination
    combination_scale ha none br = sym (times_zero F ha)
    combination_scale ha (more h k) none = sym (times_zero F ha)
    combination_scale ha (more h k) (more {x = r} l br) =
        ap₂ ◌⊕◌ (left_comm F.products h ha (hf r l)) (combination_scale ha k br)
        ∙ sym (F.distributes ha (product_below h (hf r l)) (combination_below k (below_map hf br)))

    combination_add : {g : ℕ → ℕ} {ks rs : List ℕ} → ((r : ℕ) → r < n → g r < s) → Below s ks → Below n rs
        → ks · map (λ r. f r ⊕ g r) rs ≡ ks · map f rs ⊕ ks · map g rs
    unfolding combination
    combination_add hg none br = sym (zero_plus zero_below)
    combination_add hg (more h k) none = sym (zero_plus zero_below)
    combination_add hg (more h k) (more {x = r} l br) =
        ap₂ ◌⊕◌ (F.distributes h (hf r l) (hg r l)) (combination_add hg k br)
        ∙ exchange_middle F.group.sums
        (product_below h (hf r l)) (product_below h (hg r l)) (combination_below k (below_map hf br)) (combination_below k (below_map hg br))

  -- coefficients on both sides of a matrix: by columns, then rows, or by rows, then columns
  pub combination_exchange : {n m : ℕ} {entry : ℕ → ℕ → ℕ} {ks xs rs cs : List ℕ}
      → ((r c : ℕ) → r < n → c < m → entry r c < s)
      → Below s ks → Below s xs → Below n rs → Below m cs
      → ks · map (λ c. xs · map (λ r. entry r c) rs) cs ≡ xs · map (λ r. ks · map (entry r) cs) rs
  unfolding combination
  combination_exchange {rs} he none x br bc = sym (zero_elements x rs)
  combination_exchange {rs} he (more h k) x br none = sym (zero_elements x rs)
  combination_exchange he (more h k) x br (more {x = c} l bc) =
      ap₂ ◌⊕◌ (sym (combination_scale (λ r hr. he r c hr l) h x br)) (combination_exchange he k x br bc)
      ∙ sym (combination_add (λ r hr. product_below h (he r c hr l)) (λ r hr. combination_below k (below_map (λ d. he r d hr) bc)) x br)
