-- Differences in an abelian group on the numbers below n, as tests. In the group that goes with p a difference matrix is that of its definition.
-- Assumes nothing.
use mathlib.Core.Path.{◌≡◌, sym, ◌∙◌, ap}
use Prim.Native.Nat.{ℕ, ◌*◌, ◌<◌}
use native.Mathlib.Nat.{lt_trans}
use native.Mathlib.Omega.{arith}
use lib.Dec.{eqb}
use Rattle.finite.specs.Sum.{count}
use Rattle.finite.proofs.Tests.{eqb_sym}
use Rattle.finite.proofs.Counts.{count_ext}
use Rattle.galois.specs.Laws.{AbelianGroup}
use Rattle.galois.specs.Levels.{difference_in, level_sum, level_difference}
use Rattle.galois.proofs.Derived.{subtract_add}
use Rattle.galois.proofs.Levels.{difference_below, difference_only, difference_is, level_group}
use Rattle.counting.specs.Matrix.{Matrix, MatrixInRange, row_difference, differences, DifferenceMatrix}

module _ (n : ℕ) (plus : ℕ → ℕ → ℕ) (group : AbelianGroup n plus) where
  -- a minus b
  abbrev minus : ℕ → ℕ → ℕ
  minus = difference_in n plus

  minus_below : {a b : ℕ} → a < n → b < n → minus a b < n
  minus_below {a} {b} h k = difference_below plus a b (omega arith)

  -- it is a and the opposite of b
  minus_is : {a b : ℕ} → a < n → b < n → minus a b ≡ plus a (group.opposite b)
  minus_is ha hb = difference_only group ha hb (group.sums.closed ha (group.opposite_below hb)) (subtract_add group ha hb)

  -- a + b is c where a is c - b
  pub plus_is : {a b c : ℕ} → a < n → b < n → c < n → eqb (plus a b) c ≡ eqb a (minus c b)
  plus_is {a} {b} {c} ha hb hc = difference_is group hc hb ha ∙ eqb_sym (minus c b) a

  exchange : {a b c : ℕ} → a < n → b < n → c < n → plus (minus a b) c ≡ plus (minus c b) a
  exchange {a} {b} {c} ha hb hc =
      let ho = group.opposite_below hb in
      ap (λ x. plus x c) (minus_is ha hb)
      ∙ group.sums.associates ha ho hc
      ∙ group.sums.commutes ha (group.sums.closed ho hc)
      ∙ ap (λ x. plus x a) (group.sums.commutes ho hc ∙ sym (minus_is hc hb))

  -- v - a is w - b where b and v - w make a
  pub same_difference : {v w a b : ℕ} → v < n → w < n → a < n → b < n → eqb (minus v a) (minus w b) ≡ eqb (plus (minus v w) b) a
  same_difference {v} {w} {a} {b} hv hw ha hb =
      eqb_sym (minus v a) (minus w b)
      ∙ sym (plus_is (minus_below hw hb) ha hv)
      ∙ ap (λ x. eqb x v) (exchange hw hb ha)
      ∙ plus_is (minus_below ha hb) hw hv
      ∙ eqb_sym (minus a b) (minus v w)
      ∙ sym (plus_is (minus_below hv hw) hb ha)

-- in the group, for every two columns each element is the difference of M ÷ p rows
unfoldable pub GroupDifferences : (ℕ → ℕ → ℕ) → Matrix → Type 0
GroupDifferences plus D =
    (c d v : ℕ) → c < d → d < D.columns → v < D.modulus
    → D.modulus * count D.rows (λ y. eqb (plus v (D.entry y d)) (D.entry y c)) ≡ D.rows

-- a difference matrix is one of the group that goes with p
pub level_differences : (D : Matrix) → MatrixInRange D → DifferenceMatrix D → GroupDifferences (level_sum D.modulus) D
unfolding GroupDifferences DifferenceMatrix differences row_difference MatrixInRange level_difference
level_differences D below even c d v h k l =
    ap
    (λ n. D.modulus * n)
    (count_ext D.rows (λ y m. difference_is (level_group D.modulus (omega arith)) (below y c m (lt_trans h k)) (below y d m k) l))
    ∙ even c d v h k l

-- a group for each p, given by its sum
module _ (plus : ℕ → ℕ → ℕ → ℕ) (group : (p : ℕ) → 0 < p → AbelianGroup p (plus p)) where
  -- a minus b in the group of p elements
  abbrev pub less : ℕ → ℕ → ℕ → ℕ
  less p = difference_in p (plus p)

  pub less_below : (p : ℕ) {a b : ℕ} → a < p → b < p → less p a b < p
  less_below p h k = difference_below (plus p) _ _ (omega arith)

  pub sum_is : (p : ℕ) {a b c : ℕ} → a < p → b < p → c < p → eqb (plus p a b) c ≡ eqb a (less p c b)
  sum_is p h k l = plus_is p (plus p) (group p (omega arith)) h k l

  pub same_less : (p : ℕ) {v w a b : ℕ} → v < p → w < p → a < p → b < p → eqb (less p v a) (less p w b) ≡ eqb (plus p (less p v w) b) a
  same_less p hv hw ha hb = same_difference p (plus p) (group p (omega arith)) hv hw ha hb
