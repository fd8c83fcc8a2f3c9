-- Where a function is largest on the numbers below n.
use Rattle.std.specs.Prelude.{cond, ℕ, zero, suc, ltb}

-- the first of the numbers below n at which f is largest; a later one takes its place where f is larger there, and not where it is equal
unfoldable pub greatest : ℕ → (ℕ → ℕ) → ℕ
greatest zero f = 0
greatest (suc n) f = let best = greatest n f in cond (ltb (f best) (f n)) n best
