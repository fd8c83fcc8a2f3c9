-- Changed levels as they are counted where a sheet lies, its runs of m entries one after the other in a list of bytes: document 02, K7.
use Rattle.std.specs.Prelude.{Bool, not, List, ℕ, ◌+◌, ◌*◌, ◌-◌, eqb, length, get_or}
use Rattle.finite.specs.Sum.{sum, count}

-- whether the run of m entries after the one that starts at a place has another level in column c
unfoldable pub differs : List ℕ → ℕ → ℕ → ℕ → Bool
differs table m start c = not (eqb (get_or table (start + m + c) 0) (get_or table (start + c) 0))

-- how many of N runs have another level in column c than the run before
unfoldable pub change_count : List ℕ → ℕ → ℕ → ℕ → ℕ
change_count table m N c = count (N - 1) (λ r. differs table m (r * m) c)

-- each column's price so many times
unfoldable pub priced_counts : (ℕ → ℕ) → List ℕ → ℕ
priced_counts counts prices = sum (length prices) (λ c. counts c * get_or prices c 0)
