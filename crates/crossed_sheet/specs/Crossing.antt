-- What CROSS makes of the sheet that SUM leaves: 02, K6. Each run of h stands beside the M runs that the old run of its number made.
use Rattle.std.specs.Prelude.{List, ◌++◌, ℕ, ◌*◌, ◌/◌, get_or, take, drop}
use Rattle.counting.specs.Table.{Table}
use Rattle.layout.specs.Bytes.{run_of}

-- run r of the sheet A, and h's run r / M
unfoldable pub crossed_run : ℕ → Table → Table → ℕ → List ℕ
crossed_run M H A r = run_of A r ++ run_of H (r / M)

-- the sheet A with h's columns after its own
unfoldable pub crossed_sheet : ℕ → Table → Table → Table
crossed_sheet M H A =
    record { runs = A.runs; levels = A.levels ++ H.levels; cell = λ r c. get_or (crossed_run M H A r) c 0 }

-- run r of that sheet, where the runs of A lie one after the other in bytes, m levels in each
unfoldable pub beside_run : ℕ → Table → List ℕ → ℕ → ℕ → List ℕ
beside_run M H bytes m r = take m (drop (r * m) bytes) ++ run_of H (r / M)
