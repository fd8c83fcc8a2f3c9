-- The sum and the difference of levels that go with p: document 02, K2 (01, "What is counted" and "Steps by kind", has them modulo p for every p).
-- Assumes nothing.
use Rattle.std.specs.Prelude.{Bool, cond, ◌||◌, ℕ, zero, suc, ◌+◌, ◌%◌, eqb}
use Rattle.galois.specs.Arithmetic.{field_sum}

-- the largest number below n at which the test passes, else 0
abbrev pub find : ℕ → (ℕ → Bool) → ℕ
find zero f = 0
find (suc n) f = cond (f n) n (find n f)

-- in a group on the numbers below n, given by its sum, a minus b: what, added to b, gives a
unfoldable pub difference_in : ℕ → (ℕ → ℕ → ℕ) → ℕ → ℕ → ℕ
difference_in n plus a b = find n (λ v. eqb (plus v b) a)

-- "For p = 4, 8 and 9 sums and differences become those of the field. Every other p stays modulo p."
unfoldable pub over_field : ℕ → Bool
over_field p = eqb p 4 || eqb p 8 || eqb p 9

-- a plus b
unfoldable pub level_sum : ℕ → ℕ → ℕ → ℕ
level_sum p a b = cond (over_field p) (field_sum p a b) ((a + b) % p)

-- a minus b, from the same rule
unfoldable pub level_difference : ℕ → ℕ → ℕ → ℕ
level_difference p a b = difference_in p (level_sum p) a b
