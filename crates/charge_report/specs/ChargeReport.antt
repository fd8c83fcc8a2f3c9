-- What the program of charges prints: document 02, K7, after document 01, "Printed runs". Text is the list of its bytes.
use Rattle.std.specs.Prelude.{cond, ◌&&◌, List, [], ◌∷◌, ◌++◌, ℕ, ◌+◌, eqb, leb, length, get_or, take, drop}
use Rattle.decimals.specs.Decimals.{decimal_digits}
use Rattle.counting.specs.Table.{Table, columns}
use Rattle.lines.specs.Lines.{refused_line}
use Rattle.words.specs.Words.{Reading}
use Rattle.sheets.specs.Steps.{Outcome}
use Rattle.report.specs.Report.{outcome_by, reading_by}
use Rattle.charges.specs.Charge.{charge}
use Rattle.charges.specs.declared.Quote.{Quote}

-- What is answered of a sheet of m columns by the numbers of a price list: "pence per run, pence for a changed level in each column .., and a discount", so m + 2
-- numbers in this order. "A discount over 100 or a price count that is not m is 15"; then the charge is 0.
unfoldable pub quote_by : List ℕ → Table → Quote
quote_by numbers T =
    let m = columns T in
    let discount = get_or numbers (m + 1) 0 in
    cond (leb discount 100 && eqb (length numbers) (m + 2))
    (record { answer = 0; charge = charge T (get_or numbers 0 0) (take m (drop 1 numbers)) discount })
    (record { answer = 15; charge = 0 })

-- Its line: the charge in pence, or the refusal as the planner prints one; it has no details.
unfoldable pub quote_line : ℕ → ℕ → List ℕ
quote_line answer pence = cond (eqb answer 0) (decimal_digits pence ++ (10 ∷ [])) (refused_line (answer ∷ 0 ∷ 0 ∷ 0 ∷ 0 ∷ 0 ∷ 0 ∷ []))

-- what is printed of a sheet,
unfoldable pub sheet_charged : List ℕ → Table → List ℕ
sheet_charged numbers T = quote_line (quote_by numbers T).answer (quote_by numbers T).charge

-- of an outcome, which may be a refusal,
abbrev pub outcome_charged : List ℕ → Outcome → List ℕ
outcome_charged numbers = outcome_by (sheet_charged numbers)

-- and of a text
abbrev pub reading_charged : List ℕ → Reading → List ℕ
reading_charged numbers = reading_by (sheet_charged numbers)

-- Room for any of these: the line of a refusal has at most 155 bytes, and a charge fewer.
abbrev pub charge_room : ℕ
charge_room = 155
