-- `given_sheet::is_run_below` meets its contract. The invariant: `all` says whether every entry so far is below its level count.
use mathlib.Core.Path.{◌≡◌}
use Prim.Native.Nat.{◌+◌}
use lib.Dec.{ltb}
use lib.ListN.{get_or}
use Rattle.finite.specs.Sum.{every}
use Rattle.given_sheet.proofs.is_run_below.Given as goal

abbrev pub invariant-loop-c : goal.invariant-loop-c
invariant-loop-c l = l.all ≡ every l.c (λ k. ltb (get_or l.table (l.start + k) 0) (get_or l.counts k 0))
