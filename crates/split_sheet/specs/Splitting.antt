-- What SPLIT makes of the bytes of a sheet: document 01, "Steps by kind". Columns count from 0.
use mathlib.Core.List.{List, ◌++◌, flat_map}
use Rattle.std.specs.Prelude.{ℕ, ◌+◌, ◌*◌, get_or, take, drop}
use Rattle.finite.specs.Lists.{from}
use Rattle.counting.specs.Table.{Table}
use Rattle.layout.specs.Bytes.{run_of}

-- a list in which the number at place c gives way to others
unfoldable pub give_way : ℕ → List ℕ → List ℕ → List ℕ
give_way c xs others = take c xs ++ others ++ drop (c + 1) xs

-- a run in which the level of column c gives way to the row of the table that it is the number of, from 0
unfoldable pub split_run : ℕ → Table → List ℕ → List ℕ
split_run c T run = give_way c run (run_of T (get_or run c 0))

-- run r of the runs of m levels that lie one after the other in bytes
unfoldable pub run_in : List ℕ → ℕ → ℕ → List ℕ
run_in bytes m r = take m (drop (r * m) bytes)

-- the first runs, each with its column c split
unfoldable pub split_runs : ℕ → Table → List ℕ → ℕ → ℕ → List ℕ
split_runs c T bytes m runs = flat_map (λ r. split_run c T (run_in bytes m r)) (from 0 runs)
