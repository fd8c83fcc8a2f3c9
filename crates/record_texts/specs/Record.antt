-- A record: an order, and what is stored as its answer. The head of records/src/lib.rt shows the lines.
use Rattle.std.specs.Prelude.{Bool, ◌&&◌, List, [], ◌∷◌, ℕ, ◌+◌, ◌*◌, min, get_or, take, drop}
use Rattle.words.specs.Words.{Reading, numbers, refused as unread, reading}
use Rattle.sheets.specs.Refusals.{numbered}
use Rattle.sheets.specs.Steps.{Outcome, refused}
use Rattle.sheets.specs.declared.answer.Refusal.TheVariants.{Unreadable}
use Rattle.sheets.specs.declared.answer.Answer.{Answer}
use Rattle.sheets.specs.declared.answer.Answer.TheVariants.{Filled, Refused}
use Rattle.promise.specs.Promise.{planned, answer_to}
use Rattle.report.specs.Report.{outcome_printed}
use Rattle.byte_texts.specs.Bytes.{first_place, same_bytes, all_zero}
use Rattle.record_texts.specs.declared.Judged.{Judged}
use Rattle.record_texts.specs.declared.Lengths.{Lengths}

-- The lengths that some numbers give: each is 65,536 times a number, plus the next. A number that is missing is 0.
unfoldable pub lengths_in : List ℕ → Lengths
lengths_in list =
    record {
      table = get_or list 0 0 * 65536 + get_or list 1 0;
      levels = get_or list 2 0 * 65536 + get_or list 3 0;
      scratch = get_or list 4 0 * 65536 + get_or list 5 0;
    }

abbrev pub lengths_read : Reading → Lengths
lengths_read (numbers list) = lengths_in list
lengths_read (unread place) = lengths_in []

-- What a line of lengths gives, after its "@". All are 0 where it has a word that is no number.
unfoldable pub lengths_given : List ℕ → Lengths
lengths_given line = lengths_read (reading line)

-- What the text of an order comes to in buffers of these lengths. There is room for 66,048 bytes of run table and of scratch, and for 256 level counts.
abbrev pub came_to : Reading → Lengths → Outcome
came_to (numbers list) lengths = planned list (min lengths.table 66048) (min lengths.levels 256) (min lengths.scratch 66048)
came_to (unread place) lengths = refused (Unreadable place)

-- Document 01's number of a refusal, and 0 for an order that is filled.
unfoldable pub answer_number : Answer → ℕ
answer_number (Filled runs columns spared) = 0
answer_number (Refused why) = get_or (numbered why) 0 0

-- What is judged of an order that comes to an outcome, where these bytes are stored after it: they are the same if they are "=", the end of the line,
-- and what the program `planner` prints.
unfoldable pub judged_as : Outcome → List ℕ → Judged
judged_as o stored = record { number = answer_number (answer_to o); same = same_bytes stored (61 ∷ 10 ∷ outcome_printed o) }

-- What is judged of a record: its order goes up to "=", byte 61, or to the end where there is none, and then the record is not the same.
unfoldable pub judged : List ℕ → Lengths → Judged
judged bytes lengths =
    let end = first_place 61 bytes in
    judged_as (came_to (reading (take end bytes)) lengths) (drop end bytes)

-- All bytes after those of an answer, in the level list and the run table, are zero.
unfoldable pub rest_zero : Answer → List ℕ → List ℕ → Bool
rest_zero (Filled runs columns spared) levels table = all_zero (drop columns levels) && all_zero (drop (runs * columns) table)
rest_zero (Refused why) levels table = all_zero levels && all_zero table
