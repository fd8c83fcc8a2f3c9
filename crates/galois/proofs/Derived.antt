-- What follows from the laws of any abelian group and of any field: adding an element and adding its opposite undo each other, so that what is
-- added on both sides can go, and a product with 0 is 0. Assumes nothing.
use mathlib.Core.Path.{◌≡◌, sym, ◌∙◌, ap}
use Prim.Native.Nat.{ℕ, ◌<◌}
use Rattle.galois.specs.Laws.{AbelianGroup, Field}

module _ {n : ℕ} {plus : ℕ → ℕ → ℕ} (group : AbelianGroup n plus) where
  pub zero_right : {a : ℕ} → a < n → plus a 0 ≡ a
  zero_right ha = group.sums.commutes ha group.sums.neutral_below ∙ group.sums.neutral_left ha

  pub add_subtract : {x a : ℕ} → x < n → a < n → plus (plus x a) (group.opposite a) ≡ x
  add_subtract {x} hx ha =
      group.sums.associates hx ha (group.opposite_below ha) ∙ ap (plus x) (group.opposite_cancels ha) ∙ zero_right hx

  pub subtract_add : {x a : ℕ} → x < n → a < n → plus (plus x (group.opposite a)) a ≡ x
  subtract_add {x} hx ha =
      group.sums.associates hx (group.opposite_below ha) ha
      ∙ ap (plus x) (group.sums.commutes (group.opposite_below ha) ha ∙ group.opposite_cancels ha)
      ∙ zero_right hx

  pub cancel_right : {x y a : ℕ} → x < n → y < n → a < n → plus x a ≡ plus y a → x ≡ y
  cancel_right {a = a} hx hy ha e = sym (add_subtract hx ha) ∙ ap (λ (z : ℕ). plus z (group.opposite a)) e ∙ add_subtract hy ha

module _ {s : ℕ} {plus times : ℕ → ℕ → ℕ} (field : Field s plus times) where
  -- a × 0 is a × (0 + 0)
  doubled : {a : ℕ} → a < s → plus (times a 0) (times a 0) ≡ times a 0
  doubled {a} ha =
      let zero = field.group.sums.neutral_below in
      sym (field.distributes ha zero zero) ∙ ap (times a) (field.group.sums.neutral_left zero)

  pub times_zero : {a : ℕ} → a < s → times a 0 ≡ 0
  times_zero {a} ha =
      let product = field.products.closed ha field.group.sums.neutral_below in
      sym (add_subtract field.group product product)
      ∙ ap (λ (x : ℕ). plus x (field.group.opposite (times a 0))) (doubled ha)
      ∙ field.group.opposite_cancels product
