-- Generators and their independence: document 01, "What is counted", after Theorem 2.1 of 004.
use Rattle.std.specs.Prelude.{◌≡◌, List, [], ◌∷◌, ◌++◌, map, ℕ, ◌+◌, ◌*◌, ◌<◌, min, length, get_or}
use Rattle.finite.specs.Sum.{sum}
use Rattle.finite.specs.Lists.{from, AllBelow}
use Rattle.galois.specs.Combination.{combination}

-- t coordinates over a field of s elements, the number of columns of each factor, and the field element in a row and a column, both from 0.
-- The columns of factor 0 come first, then those of factor 1, and so on.
pub record Generator : Type 0 where
  pub coordinates : ℕ
  pub size : ℕ
  pub widths : List ℕ
  pub entry : ℕ → ℕ → ℕ

-- the number of columns of all factors
unfoldable pub width : List ℕ → ℕ
width us = sum (length us) (λ i. get_or us i 0)

-- the generator whose rows lie one after the other in a list of bytes
unfoldable pub generator_of : List ℕ → ℕ → ℕ → List ℕ → Generator
generator_of entries t s us =
    record { coordinates = t; size = s; widths = us; entry = λ r c. get_or entries (r * width us + c) 0 }

-- every entry is an element of the field, 0 to s - 1
unfoldable pub ElementsInRange : Generator → Type 0
ElementsInRange G = (r c : ℕ) → r < G.coordinates → c < width G.widths → G.entry r c < G.size

-- n
abbrev pub factors : Generator → ℕ
factors G = length G.widths

-- the columns of factor i
unfoldable pub factor_columns : List ℕ → ℕ → List ℕ
factor_columns us i = from (sum i (λ k. get_or us k 0)) (get_or us i 0)

-- the columns of several factors, one factor after the other
unfoldable pub columns_of : List ℕ → List ℕ → List ℕ
columns_of us [] = []
columns_of us (i ∷ is) = factor_columns us i ++ columns_of us is

-- numbers in increasing order, all below n
unfoldable pub Increasing : ℕ → List ℕ → Type 0
Increasing n [] = Unit {0}
Increasing n (i ∷ []) = i < n
Increasing n (i ∷ j ∷ is) = (i < j) × Increasing n (j ∷ is)

-- a field's sum and product
module _ (plus times : ℕ → ℕ → ℕ) where
  -- no coefficients but all zeros combine the columns to zero
  unfoldable pub IndependentColumns : Generator → List ℕ → Type 0
  IndependentColumns G cs =
      (ks : List ℕ)
      → length ks ≡ length cs
      → AllBelow G.size ks
      → ((r : ℕ) → r < G.coordinates → combination plus times ks (map (G.entry r) cs) ≡ 0)
      → AllBelow 1 ks

  -- Strength g: the columns of any g factors, or of all where there are fewer, are independent.
  unfoldable pub Independent : ℕ → Generator → Type 0
  Independent g G =
      (is : List ℕ) → length is ≡ min g (factors G) → Increasing (factors G) is → IndependentColumns G (columns_of G.widths is)
