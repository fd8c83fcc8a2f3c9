-- Linear combinations: document 01, "What is counted", after Theorem 2.1 of 004.
use Rattle.std.specs.Prelude.{List, [], ◌∷◌, ℕ}

-- a field's sum and product
module _ (plus times : ℕ → ℕ → ℕ) where
  -- the sum of the products of coefficients and elements
  unfoldable pub combination : List ℕ → List ℕ → ℕ
  combination [] xs = 0
  combination (k ∷ ks) [] = 0
  combination (k ∷ ks) (x ∷ xs) = plus (times k x) (combination ks xs)
