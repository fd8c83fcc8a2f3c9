-- What document 01 asks of all elements of a list, as a statement or as a test.
use Rattle.std.specs.Prelude.{Bool, true, ◌&&◌, not, ℕ}
use mathlib.Core.List.{List, [], ◌∷◌, Memᴰ}
use Rattle.galois.specs.Arithmetic.{member}

module _ {A : Type 0} where
  -- all different: no element stands again after itself (`List.Memᴰ x xs` says that x stands in xs)
  abbrev pub Distinct : List A → Type 0
  Distinct [] = Unit {0}
  Distinct (x ∷ xs) = (Memᴰ x xs → ⊥) × Distinct xs

  -- every element passes the test
  abbrev pub all_of : (A → Bool) → List A → Bool
  all_of test [] = true
  all_of test (x ∷ xs) = test x && all_of test xs

-- the numbers are all different
abbrev pub all_different : List ℕ → Bool
all_different [] = true
all_different (x ∷ xs) = not (member x xs) && all_different xs
