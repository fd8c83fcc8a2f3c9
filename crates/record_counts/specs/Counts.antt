-- What is counted of records.
use Rattle.std.specs.Prelude.{Bool, cond, List, ℕ, ◌+◌, ltb, get_or, set}
use Rattle.record_counts.specs.declared.Tally.{Tally}

-- One more; a count stays at the largest number that it can hold, which no text reaches.
unfoldable pub one_more : ℕ → ℕ
one_more n = cond (ltb n 18446744073709551615) (n + 1) n

-- A record is counted, and counted as differing where it does not hold, and only there.
unfoldable pub record_counted : Bool → Tally → Tally
record_counted holds tally =
    record { records = one_more tally.records; differing = cond holds tally.differing (one_more tally.differing) }

-- It is counted by its answer too.
unfoldable pub answer_counted : ℕ → List ℕ → List ℕ
answer_counted number answers = set answers number (one_more (get_or answers number 0))
