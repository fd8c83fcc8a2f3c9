-- What the counters of a check hold.
use Rattle.std.specs.Prelude.{◌≡◌, ℕ, List, eqb, length, get_or, Some, None}
use Rattle.std.specs.Prelude as Prelude
use Rattle.std.proofs.Math.Option.{Option, none, some}
use Rattle.finite.specs.Sum.{count}
use Rattle.counting.specs.Verdict.{Counted, deviation}
use Rattle.tally.specs.declared.Deviation.{Deviation}

-- 4,096 counters, all zero
pub record Cleared (counters : List ℕ) : Type 0 where
  pub size : length counters ≡ 4096
  pub zero : (k : ℕ) → get_or counters k 0 ≡ 0

-- 4,096 counters, of which number k says in how many of the first n runs the key is k
pub record Tallied (counters : List ℕ) (n : ℕ) (key : ℕ → ℕ) : Type 0 where
  pub size : length counters ≡ 4096
  pub counts : (k : ℕ) → get_or counters k 0 ≡ count n (λ r. eqb (key r) k)

-- the lowest of n keys that is not that of the n-th part of the runs
unfoldable pub keys_deviation : ℕ → ℕ → (ℕ → ℕ) → Option Counted
keys_deviation n runs key = deviation n runs (λ v. count runs (λ r. eqb (key r) v))

-- what was found, as the code answers it
abbrev pub as_deviation : Option Counted → Prelude.Option Deviation
as_deviation none = None
as_deviation (some x) = Some (record { value = x.value; times = x.times })
