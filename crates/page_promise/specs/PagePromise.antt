-- What is promised of a page: document 02, K3, for any sheet handed in (N runs of m columns in a table, and a level list), any page number and any
-- buffer.
use Rattle.std.specs.Prelude.{◌≡◌, ◌↔◌, ◌⊎◌, cond, ◌&&◌, List, ℕ, ◌≤◌, ◌<◌, eqb, leb, length, take}
use Rattle.pieces.specs.Padded.{zeros, padded}
use Rattle.given_sheet.specs.Given.{WellFormed, well_formed, given_sheet}
use Rattle.page_text.specs.Pages.{page_count, page_text}
use Rattle.legible.specs.Faithful.{Faithful, PrintedOnce}

-- The number that is answered, from the sheet, the page's number and the length of the buffer: "a sheet handed in is refused as 1, before all else"; "Then
-- a page buffer under 4,800 bytes is 12, page 0 or any past the last is 13, in that order". 0 says that the page is printed.
unfoldable pub page_answer : ℕ → ℕ → List ℕ → List ℕ → ℕ → ℕ → ℕ
page_answer N m levels table number room =
    cond (well_formed N m levels table) (cond (leb 4800 room) (cond (leb 1 number && leb number (page_count N m)) 0 13) 12) 1

-- Every byte of the buffer at the end: the page, and "Bytes past the page become zero"; "a refusal blanks the buffer with zeros".
unfoldable pub page_bytes : ℕ → ℕ → List ℕ → List ℕ → ℕ → ℕ → List ℕ
page_bytes N m levels table number room =
    cond (eqb (page_answer N m levels table number room) 0) (padded room (page_text (given_sheet N m levels table) number)) (zeros room)

-- The promise, for a sheet, a page's number, the buffer as it was, the number that is answered, and the buffer as it is.
pub record PagePromise (N m : ℕ) (levels table : List ℕ) (number : ℕ) (before : List ℕ) (answer : ℕ) (after : List ℕ) : Type 0 where
  -- the answer and every byte are what the definitions give; nothing of what the buffer held is in them but its length
  pub answered : answer ≡ page_answer N m levels table number (length before)
  pub bytes_are : after ≡ page_bytes N m levels table number (length before)
  -- the answer as conditions, each after those before it
  pub refused_sheet : (answer ≡ 1) ↔ (WellFormed N m levels table → ⊥)
  pub refused_buffer : (answer ≡ 12) ↔ (WellFormed N m levels table × (length before < 4800))
  pub refused_page : (answer ≡ 13) ↔ (WellFormed N m levels table × (4800 ≤ length before) × ((number ≡ 0) ⊎ (page_count N m < number)))
  pub printed : (answer ≡ 0) ↔ (WellFormed N m levels table × (4800 ≤ length before) × (1 ≤ number) × (number ≤ page_count N m))
  -- every number on a printed page is the sheet's
  pub faithful : answer ≡ 0 → Faithful (given_sheet N m levels table) number (take 4800 after)
  -- and over all pages every run and column is printed once
  pub once : PrintedOnce N m
