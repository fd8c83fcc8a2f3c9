-- What the program of run sheets prints: document 02, K3, after document 01, "Printed runs". Text is the list of its bytes.
use Rattle.std.specs.Prelude.{cond, ◌&&◌, ℕ, leb}
use mathlib.Core.List.{List, [], ◌∷◌, flat_map}
use Rattle.finite.specs.Lists.{from}
use Rattle.counting.specs.Table.{Table, columns}
use Rattle.lines.specs.Lines.{refused_line}
use Rattle.words.specs.Words.{Reading}
use Rattle.sheets.specs.Steps as steps
use Rattle.report.specs.Report.{outcome_by, reading_by}
use Rattle.page_text.specs.Pages.{page_count, page_text}
use Rattle.page_argument.specs.declared.Asked.{Asked}
use Rattle.page_argument.specs.declared.Asked.TheVariants.{All, One}

-- all pages of a sheet, one after the other: "Pages count from 1"
unfoldable pub all_pages : Table → List ℕ
all_pages T = flat_map (page_text T) (from 1 (page_count T.runs (columns T)))

-- the line of refusal 13, "page 0 or any past the last", in the form of 01's refusals; it has no details
abbrev pub no_such_page : List ℕ
no_such_page = refused_line (13 ∷ 0 ∷ 0 ∷ 0 ∷ 0 ∷ 0 ∷ 0 ∷ [])

-- what is printed of a sheet: all pages, or the one that is asked for
unfoldable pub sheet_pages : Asked → Table → List ℕ
sheet_pages All T = all_pages T
sheet_pages (One n) T = cond (leb 1 n && leb n (page_count T.runs (columns T))) (page_text T n) no_such_page

-- of an outcome: of its sheet, or the refusal "as the planner does"
abbrev pub outcome_pages : Asked → steps.Outcome → List ℕ
outcome_pages asked = outcome_by (sheet_pages asked)

-- and of a text
abbrev pub reading_pages : Asked → Reading → List ℕ
reading_pages asked = reading_by (sheet_pages asked)

-- Room for any of these: 54 pages of 4,800 bytes.
abbrev pub page_room : ℕ
page_room = 259200
