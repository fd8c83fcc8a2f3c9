-- Each of the seven fields has the field laws: one test tries them at all elements, antt computes it at each size,
-- and a lemma turns what it tried into the record of laws. Assumes nothing.
use mathlib.Core.Bool.{Bool, ◌||◌}
use mathlib.Core.List.{List, [], ◌∷◌, map}
use Prim.Native.Nat.{ℕ, ◌<◌}
use native.Mathlib.Nat.{ne_of_gt}
use lib.Dec.{T, eqb, ltb}
use mir.Facts.{eqb_yes, ltb_yes}
use Rattle.galois.specs.Arithmetic.{field_sizes, field_size, field_sum, field_product}
use Rattle.galois.specs.Levels.{find}
use Rattle.galois.specs.Laws.{CommutativeMonoid, AbelianGroup, Field}
use Rattle.galois.proofs.Tests.{every, every², every³, at, at², at³, all, passed, among, otherwise}

-- the element that op takes with a to e
abbrev partner : ℕ → ℕ → (ℕ → ℕ → ℕ) → ℕ → ℕ
partner n e op a = find n (λ x. eqb (op a x) e)

-- the laws of each record, in its order, tried at all elements below n
monoid_tests : ℕ → ℕ → (ℕ → ℕ → ℕ) → List Bool
monoid_tests n e op =
    ltb e n
    ∷ every² n (λ a b. ltb (op a b) n)
    ∷ every² n (λ a b. eqb (op a b) (op b a))
    ∷ every³ n (λ a b c. eqb (op (op a b) c) (op a (op b c)))
    ∷ every n (λ a. eqb (op e a) a)
    ∷ []

monoid : (n e : ℕ) (op : ℕ → ℕ → ℕ) → T (all (monoid_tests n e op)) → CommutativeMonoid n e op
unfolding monoid_tests
monoid n e op t =
    let (below, (closed, (commutes, (associates, (unit, _))))) = passed (monoid_tests n e op) t in
    record {
      neutral_below = ltb_yes below;
      closed = λ ha hb. ltb_yes (at² n _ closed ha hb);
      commutes = λ ha hb. eqb_yes (at² n _ commutes ha hb);
      associates = λ ha hb hc. eqb_yes (at³ n _ associates ha hb hc);
      neutral_left = λ ha. eqb_yes (at n _ unit ha);
    }

group_tests : ℕ → (ℕ → ℕ → ℕ) → List Bool
group_tests n plus =
    all (monoid_tests n 0 plus)
    ∷ every n (λ a. ltb (partner n 0 plus a) n)
    ∷ every n (λ a. eqb (plus a (partner n 0 plus a)) 0)
    ∷ []

group : (n : ℕ) (plus : ℕ → ℕ → ℕ) → T (all (group_tests n plus)) → AbelianGroup n plus
unfolding group_tests
group n plus t =
    let (sums, (below, (cancels, _))) = passed (group_tests n plus) t in
    record {
      sums = monoid n 0 plus sums;
      opposite = partner n 0 plus;
      opposite_below = λ ha. ltb_yes (at n _ below ha);
      opposite_cancels = λ ha. eqb_yes (at n _ cancels ha);
    }

field_tests : ℕ → (ℕ → ℕ → ℕ) → (ℕ → ℕ → ℕ) → List Bool
field_tests s plus times =
    all (group_tests s plus)
    ∷ all (monoid_tests s 1 times)
    ∷ every s (λ a. ltb (partner s 1 times a) s)
    ∷ every s (λ a. eqb a 0 || eqb (times a (partner s 1 times a)) 1)
    ∷ every³ s (λ a b c. eqb (times a (plus b c)) (plus (times a b) (times a c)))
    ∷ []

from_tests : (s : ℕ) (plus times : ℕ → ℕ → ℕ) → T (all (field_tests s plus times)) → Field s plus times
unfolding field_tests
from_tests s plus times t =
    let (sums, (products, (below, (cancels, (distributes, _))))) = passed (field_tests s plus times) t in
    record {
      group = group s plus sums;
      products = monoid s 1 times products;
      inverse = partner s 1 times;
      inverse_below = λ ha. ltb_yes (at s _ below ha);
      inverse_cancels = λ positive ha. eqb_yes (otherwise _ (ne_of_gt positive) (at s _ cancels ha));
      distributes = λ ha hb hc. eqb_yes (at³ s _ distributes ha hb hc);
    }

-- the field of s elements passes, and so do all seven: what antt computes
lawful : ℕ → Bool
lawful s = all (field_tests s (field_sum s) (field_product s))

all_lawful : T (all (map lawful field_sizes))
unfolding lawful field_tests group_tests monoid_tests field_sum field_product
all_lawful = tt

pub field : (s : ℕ) → T (field_size s) → Field s (field_sum s) (field_product s)
unfolding field_size lawful
field s size = from_tests s (field_sum s) (field_product s) (among lawful field_sizes all_lawful s size)

pub size_positive : (s : ℕ) → T (field_size s) → 0 < s
size_positive s size = (field s size).group.sums.neutral_below
