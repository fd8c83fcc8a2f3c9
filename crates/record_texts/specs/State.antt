-- The code's state as the definitions have it.
use Rattle.std.specs.Prelude.{List, ℕ, take}
use Rattle.record_counts.specs.declared.Tally.{Tally}
use Rattle.record_texts.specs.Text.{Comparison}
use Rattle.record_texts.specs.declared.State.{State}
use Rattle.record_texts.specs.declared.Lengths.{Lengths}

abbrev pub progress : Tally → Lengths → List ℕ → List ℕ → Comparison
progress tally lengths item answers = record { tally = tally; answers = answers; lengths = lengths; item = item }

-- The state, the buffer at whose front the bytes of the item stand, and the counts by answer.
abbrev pub progress_of : State → List ℕ → List ℕ → Comparison
progress_of s item answers = progress s.tally s.lengths (take s.held item) answers
