-- A text of records, byte by byte: the head of records/src/lib.rt shows its lines.
use Rattle.std.specs.Prelude.{◌≡◌, Bool, cond, ◌&&◌, ◌||◌, ℕ, eqb, ltb, length, take, replicate}
use mathlib.Core.List.{List, [], ◌∷◌, ◌++◌, foldl, flatten}
use Rattle.record_counts.specs.Counts.{record_counted, answer_counted}
use Rattle.record_counts.specs.declared.Tally.{Tally}
use Rattle.record_texts.specs.Record.{lengths_given, judged}
use Rattle.record_texts.specs.declared.Lengths.{Lengths}

-- How far a text has been compared.
pub record Comparison : Type 0 where
  -- how many records there were, and how many of them differ
  pub tally : Tally
  -- how many came to each answer, by its number
  pub answers : List ℕ
  -- the lengths of the buffers for the next record
  pub lengths : Lengths
  -- the bytes of the item that is not ended yet
  pub item : List ℕ

-- "#" begins a remark and "@" a line of lengths.
abbrev pub is_line : ℕ → Bool
is_line first = eqb first 35 || eqb first 64

-- Whether a byte ends the item with these bytes so far: those two and an empty line end with their line, and any other item, a record, at ";".
unfoldable pub ends_item : List ℕ → ℕ → Bool
ends_item [] byte = eqb byte 10
ends_item (first ∷ rest) byte = cond (is_line first) (eqb byte 10) (eqb byte 59)

-- After a record. Where it fills the room, bytes of it may be missing, and it differs.
unfoldable pub after_record : ℕ → Comparison → Comparison
after_record room p =
    let found = judged p.item p.lengths in
    record {
      tally = record_counted (ltb (length p.item) room && found.same) p.tally;
      answers = answer_counted found.number p.answers;
      lengths = p.lengths;
      item = [];
    }

-- After a line of lengths, and after a line that says nothing.
abbrev pub after_lengths : List ℕ → Comparison → Comparison
after_lengths line p = record { tally = p.tally; answers = p.answers; lengths = lengths_given line; item = [] }

abbrev pub after_nothing : Comparison → Comparison
after_nothing p = record { tally = p.tally; answers = p.answers; lengths = p.lengths; item = [] }

-- After an item that has these bytes.
abbrev pub after_item_of : ℕ → List ℕ → Comparison → Comparison
after_item_of room [] p = after_nothing p
after_item_of room (first ∷ rest) p =
    cond (eqb first 64) (after_lengths rest p) (cond (eqb first 35) (after_nothing p) (after_record room p))

unfoldable pub after_item : ℕ → Comparison → Comparison
after_item room p = after_item_of room p.item p

-- A byte of an item more, as far as there is room.
abbrev pub byte_held : ℕ → ℕ → Comparison → Comparison
byte_held room byte p =
    record { tally = p.tally; answers = p.answers; lengths = p.lengths; item = take room (p.item ++ (byte ∷ [])) }

-- After a byte more, where there is room for so many bytes of an item.
unfoldable pub after_byte : ℕ → Comparison → ℕ → Comparison
after_byte room p byte = cond (ends_item p.item byte) (after_item room p) (byte_held room byte p)

-- After some bytes.
unfoldable pub after_text : ℕ → Comparison → List ℕ → Comparison
after_text room p bytes = foldl (after_byte room) p bytes

-- Before the first byte: nothing is counted, and the buffers are as long as document 01 asks.
abbrev pub start : Comparison
start =
    record {
      tally = record { records = 0; differing = 0 };
      answers = replicate 15 0;
      lengths = record { table = 65536; levels = 128; scratch = 65536 };
      item = [];
    }

-- What a text comes to, where there is room for 262,144 bytes of an item. A record that is not ended is not counted.
unfoldable pub compared : List ℕ → Comparison
compared text = after_text 262144 start text

-- The tally of a text that was read in pieces. Nothing can say which bytes are read from standard input, so this says that there are such.
pub record Compared (tally : Tally) : Type 0 where
  pub pieces : List (List ℕ)
  pub tally_is : tally ≡ (compared (flatten pieces)).tally
