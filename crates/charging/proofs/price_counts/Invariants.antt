-- `charging::price_counts` meets its contract. The invariant: the sum over the columns before c, of which each is at most 65,535 × (2³² - 1).
use mathlib.Core.Path.{◌≡◌}
use Prim.Native.Nat.{◌*◌, ◌≤◌}
use Rattle.charging.proofs.Changes.{priced_first}
use Rattle.charging.proofs.price_counts.Given as goal

abbrev pub invariant-loop-c : goal.invariant-loop-c
invariant-loop-c l = (l.pence ≡ priced_first l.counts l.prices l.c) × (l.pence ≤ l.c * (65535 * 4294967295))
