-- The arithmetic of the fields of document 01, "What is counted": an element of the field of s elements is a number below s.
-- Prime s: modulo s. The fields of 4, 8 and 9 elements: polynomials in w, reduced by 01's rule for a power of w.
-- Assumes nothing.
use Rattle.std.specs.Prelude.{Bool, false, cond, ◌||◌, List, [], ◌∷◌, ℕ, zero, suc, ◌+◌, ◌-◌, ◌*◌, ◌/◌, ◌%◌, eqb, length, get_or, take}

-- x is in the list
abbrev pub member : ℕ → List ℕ → Bool
member x [] = false
member x (y ∷ ys) = eqb x y || member x ys

abbrev pub field_sizes : List ℕ
field_sizes = 2 ∷ 3 ∷ 4 ∷ 5 ∷ 7 ∷ 8 ∷ 9 ∷ []

-- s is one of 2, 3, 4, 5, 7, 8, 9
unfoldable pub field_size : ℕ → Bool
field_size s = member s field_sizes

-- A polynomial is the list of its coefficients, that of the lowest power first: a + bw + cw² is a, b, c.

-- the polynomial that an element stands for, its n digits base p: where p is 2 and n is 3, a + 2b + 4c stands for a, b, c
abbrev pub polynomial_of : ℕ → ℕ → ℕ → List ℕ
polynomial_of p zero x = []
polynomial_of p (suc n) x = x % p ∷ polynomial_of p n (x / p)

-- the element that stands for a polynomial
abbrev pub element : ℕ → List ℕ → ℕ
element p [] = 0
element p (a ∷ f) = a + p * element p f

-- f + g, with coefficients modulo p; what is missing at the end of one is zero
abbrev pub polynomial_sum : ℕ → List ℕ → List ℕ → List ℕ
polynomial_sum p [] g = g
polynomial_sum p (a ∷ f) [] = a ∷ f
polynomial_sum p (a ∷ f) (b ∷ g) = (a + b) % p ∷ polynomial_sum p f g

-- c × f, for a coefficient c
abbrev pub scaled : ℕ → ℕ → List ℕ → List ℕ
scaled p c [] = []
scaled p c (a ∷ f) = (c * a) % p ∷ scaled p c f

-- w × f, where f has n coefficients and `power` has those of wⁿ: each moves up by one power, and the last, now wⁿ's, is reduced
abbrev pub times_w : ℕ → List ℕ → List ℕ → List ℕ
times_w p power f = polynomial_sum p (take (length power) (0 ∷ f)) (scaled p (get_or f (length power - 1) 0) power)

-- f × g, as (a + w f) × g = a g + w (f × g)
abbrev pub polynomial_product : ℕ → List ℕ → List ℕ → List ℕ → List ℕ
polynomial_product p power [] g = []
polynomial_product p power (a ∷ f) g = polynomial_sum p (scaled p a g) (times_w p power (polynomial_product p power f g))

-- how a field's sums and products are made: modulo s, or as polynomials in w with coefficients modulo p, given the n coefficients of wⁿ
pub data Rule : Type 0 where
  prime : Rule
  extension : (p : ℕ) (power : List ℕ) → Rule

-- 01's rules. 4: w² = 1 + w (004). 8: w³ = 1 + w + 0w². 9: w² = 2 + 0w. Any other size is prime: modulo s.
abbrev pub rule_of : ℕ → Rule
rule_of s =
    cond (eqb s 4) (extension 2 (1 ∷ 1 ∷ []))
    (cond (eqb s 8) (extension 2 (1 ∷ 1 ∷ 0 ∷ []))
    (cond (eqb s 9) (extension 3 (2 ∷ 0 ∷ [])) prime))

abbrev pub sum_by : Rule → ℕ → ℕ → ℕ → ℕ
sum_by prime s a b = (a + b) % s
sum_by (extension p power) s a b =
    element p (polynomial_sum p (polynomial_of p (length power) a) (polynomial_of p (length power) b))

abbrev pub product_by : Rule → ℕ → ℕ → ℕ → ℕ
product_by prime s a b = (a * b) % s
product_by (extension p power) s a b =
    element p (polynomial_product p power (polynomial_of p (length power) a) (polynomial_of p (length power) b))

-- the sum of a and b in the field of s elements
unfoldable pub field_sum : ℕ → ℕ → ℕ → ℕ
field_sum s a b = sum_by (rule_of s) s a b

-- the product of a and b in the field of s elements
unfoldable pub field_product : ℕ → ℕ → ℕ → ℕ
field_product s a b = product_by (rule_of s) s a b
