-- The first thing found on the way through the numbers below n.
use Rattle.std.specs.Prelude.{ℕ, zero, suc, cond, ltb}
use Rattle.std.proofs.Math.Option.{Option, none, some}

infixl 20 ◌or_else◌
-- what was found earlier, or else what is found now
abbrev pub ◌or_else◌ : {A : Type 0} → Option A → Option A → Option A
none or_else later = later
some found or_else later = some found

-- the first of f 0, f 1, .., f (n - 1) that is not `none`
unfoldable pub first : {A : Type 0} → ℕ → (ℕ → Option A) → Option A
first zero f = none
first (suc n) f = first n f or_else f n

-- the first of f (c + 1), .., f (n - 1) that is not `none`
unfoldable pub first_after : {A : Type 0} → ℕ → ℕ → (ℕ → Option A) → Option A
first_after c n f = first n (λ d. cond (ltb c d) (f d) none)

-- the first of the f c d with c < d < n that is not `none`, in the order 0-1, 0-2, .., then 1-2, and so on
unfoldable pub first_pair : {A : Type 0} → ℕ → (ℕ → ℕ → Option A) → Option A
first_pair n f = first n (λ c. first_after c n (f c))
