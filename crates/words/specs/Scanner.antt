-- The scanner's steps. What they come to over a whole text, in whatever pieces it is read, is `reading` of Words.antt, by a theorem.
use Rattle.std.specs.Prelude.{◌≡◌, cond, ◌&&◌, ℕ, ◌+◌, ◌*◌, ◌-◌, ◌≤◌, leb, ltb, length, set, take, Result, Ok, Err}
use mathlib.Core.List.{List, foldl}
use Rattle.words.specs.Words.{is_gap, is_digit, Reading, numbers, refused}
use Rattle.words.specs.declared.Scan.{Scan}
use Rattle.words.specs.declared.Scan.TheVariants.{Between, Inside, Failed}
use Rattle.words.specs.declared.BadWord.{BadWord}

-- What a whole text comes to: so many numbers, at the front of the list, or the place of the first word that is refused.
abbrev pub Scanned : Type 0
Scanned = Result ℕ BadWord

abbrev pub refused_at : ℕ → Scanned
refused_at place = Err record { place = place }

-- One byte more in the word after so many numbers, whose digits so far write value.
unfoldable pub grown : ℕ → ℕ → ℕ → Scan
grown count value byte =
    let next = value * 10 + (byte - 48) in
    cond (is_digit byte && leb next 65535) (Inside count next) (Failed count)

-- The first byte of the word after so many numbers. The word after 32,768 of them is refused, whatever it is.
unfoldable pub begun : ℕ → ℕ → Scan
begun count byte = cond (ltb count 32768) (grown count 0 byte) (Failed count)

-- The end of the word after so many numbers, which writes value: it goes into the list, which has 32,768 places.
unfoldable pub stored : ℕ → ℕ → List ℕ → Scanned × List ℕ
stored count value list = cond (ltb count 32768) (Ok (count + 1), set list count value) (refused_at count, list)

abbrev pub resumed : Scanned → Scan
resumed (Ok count) = Between count
resumed (Err bad) = Failed bad.place

-- The scanner and the list of the numbers read.
abbrev pub Progress : Type 0
Progress = Scan × List ℕ

-- After one byte. A gap after a word ends it.
abbrev pub scan_step : Scan → List ℕ → ℕ → Progress
scan_step (Between count) list byte = (cond (is_gap byte) (Between count) (begun count byte), list)
scan_step (Inside count value) list byte =
    cond (is_gap byte) (resumed (stored count value list).0, (stored count value list).1) (grown count value byte, list)
scan_step (Failed place) list byte = (Failed place, list)

unfoldable pub stepped : Progress → ℕ → Progress
stepped p byte = scan_step p.0 p.1 byte

-- After the bytes of a piece.
unfoldable pub advanced : Progress → List ℕ → Progress
advanced p bytes = foldl stepped p bytes

-- At the end of the text, which ends a word begun.
abbrev pub finish_of : Scan → List ℕ → Scanned × List ℕ
finish_of (Between count) list = (Ok count, list)
finish_of (Inside count value) list = stored count value list
finish_of (Failed place) list = (refused_at place, list)

unfoldable pub finished : Progress → Scanned × List ℕ
finished p = finish_of p.0 p.1

-- The answer, with the numbers at the front of the list.
abbrev pub scanned_reading : Scanned × List ℕ → Reading
scanned_reading (Ok count, list) = numbers (take count list)
scanned_reading (Err bad, list) = refused bad.place

-- How many places of the list are taken: by the numbers read, and by a word begun. Before a refused word stand as many numbers as its place says.
abbrev pub taken : Scan → ℕ
taken (Between count) = count
taken (Inside count value) = count + 1
taken (Failed at) = at

abbrev pub place_at_end : Scanned → ℕ
place_at_end (Ok count) = count
place_at_end (Err bad) = bad.place

-- A scanner that takes at most 32,768 of so many places: under way, and at its end.
pub record Unfinished (places : ℕ) (s : Scan) (list : List ℕ) : Type 0 where
  pub low : taken s ≤ 32768
  pub kept : length list ≡ places

pub record Ended (places : ℕ) (r : Scanned) (list : List ℕ) : Type 0 where
  pub low : place_at_end r ≤ 32768
  pub kept : length list ≡ places
