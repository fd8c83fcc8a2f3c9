-- `paging::print_page` meets its promise: the questions in turn, on a clear buffer, and then the page.
use mathlib.Core.Path.{◌≡◌, sym, ◌∙◌}
use mathlib.Core.Bool.{true, false, ◌&&◌}
use Prim.Native.Nat.{◌≤◌, ◌<◌}
use native.Mathlib.Omega.{arith}
use lib.Dec.{leb}
use lib.ListN.{length}
use Rattle.page_text.specs.Pages.{page_count, page_text}
use Rattle.pieces.proofs.Padded.{put_padded}
use Rattle.given_sheet.specs.Given.{well_formed, given_sheet}
use Rattle.given_sheet.proofs.Given.{stands_formed}
use Rattle.page_promise.proofs.PagePromises.{passed_conditions, sheet_refused, buffer_refused, page_refused, page_printed, page_promised}
use Rattle.paging.proofs.print_page.Goals as goal

pub returns-then-not-is_well_formed : goal.returns-then-not-is_well_formed
returns-then-not-is_well_formed c =
    let a = c.args in
    let settled = sheet_refused a.runs a.columns a.levels.now a.table.now a.number (length a.page.now) (sym c.is_well_formed.ensures ∙ c.if-not-is_well_formed.true) in
    page_promised _ _ _ _ _ _ (settled.0, c.clear.ensures ∙ settled.1)

pub returns-then-page-lt4800 : goal.returns-then-page-lt4800
returns-then-page-lt4800 c =
    let stands : let a = c.args in well_formed a.runs a.columns a.levels.now a.table.now ≡ true =
    sym c.is_well_formed.ensures ∙ c.if-not-is_well_formed.false
    in
    let cleared = c.clear in
    let a = c.args in
    let less : length a.page.now < 4800 = omega (arith, cleared.auto.bytes, c.if-page-lt4800.true) in
    let settled = buffer_refused a.runs a.columns a.levels.now a.table.now a.number (length a.page.now) stands less in
    page_promised _ _ _ _ _ _ (settled.0, cleared.ensures ∙ settled.1)

pub page_count-requires : goal.page_count-requires
page_count-requires c =
    let stands : let a = c.args in well_formed a.runs a.columns a.levels.now a.table.now ≡ true =
    sym c.is_well_formed.ensures ∙ c.if-not-is_well_formed.false
    in
    let sheet = stands_formed _ _ _ _ stands in (sheet.runs_most, sheet.columns_most)

pub returns-then-not-number-page_count : goal.returns-then-not-number-page_count
returns-then-not-number-page_count c =
    let stands : let a = c.args in well_formed a.runs a.columns a.levels.now a.table.now ≡ true =
    sym c.is_well_formed.ensures ∙ c.if-not-is_well_formed.false
    in
    let long : 4800 ≤ length c.args.page.now =
    omega (arith, c.clear.auto.bytes, c.if-page-lt4800.false)
    in
    let cleared = c.clear in
    let a = c.args in
    let none : (leb 1 a.number && leb a.number (page_count a.runs a.columns)) ≡ false = rw (← c.page_count.ensures) (c.if-not-number-page_count.true) in
    let settled = page_refused a.runs a.columns a.levels.now a.table.now a.number (length a.page.now) stands long none in
    page_promised _ _ _ _ _ _ (settled.0, cleared.ensures ∙ settled.1)

pub put_page-requires-clause-well_formed : goal.put_page-requires-clause-well_formed
put_page-requires-clause-well_formed c =
    let stands : let a = c.args in well_formed a.runs a.columns a.levels.now a.table.now ≡ true =
    sym c.is_well_formed.ensures ∙ c.if-not-is_well_formed.false
    in
    let long : 4800 ≤ length c.args.page.now =
    omega (arith, c.clear.auto.bytes, c.if-page-lt4800.false)
    in
    let there : let a = c.args in (leb 1 a.number && leb a.number (page_count a.runs a.columns)) ≡ true =
    rw (← c.page_count.ensures) (c.if-not-number-page_count.false)
    in
    let hold = passed_conditions _ _ _ _ _ _ stands long there in
    hold.0

pub put_page-requires-clause-le_number : goal.put_page-requires-clause-le_number
put_page-requires-clause-le_number c =
    let stands : let a = c.args in well_formed a.runs a.columns a.levels.now a.table.now ≡ true =
    sym c.is_well_formed.ensures ∙ c.if-not-is_well_formed.false
    in
    let long : 4800 ≤ length c.args.page.now =
    omega (arith, c.clear.auto.bytes, c.if-page-lt4800.false)
    in
    let there : let a = c.args in (leb 1 a.number && leb a.number (page_count a.runs a.columns)) ≡ true =
    rw (← c.page_count.ensures) (c.if-not-number-page_count.false)
    in
    let hold = passed_conditions _ _ _ _ _ _ stands long there in
    (hold.2, hold.3, omega (arith, c.clear.auto.bytes, long))

pub returns : goal.returns
returns c =
    let stands : let a = c.args in well_formed a.runs a.columns a.levels.now a.table.now ≡ true =
    sym c.is_well_formed.ensures ∙ c.if-not-is_well_formed.false
    in
    let long : 4800 ≤ length c.args.page.now =
    omega (arith, c.clear.auto.bytes, c.if-page-lt4800.false)
    in
    let there : let a = c.args in (leb 1 a.number && leb a.number (page_count a.runs a.columns)) ≡ true =
    rw (← c.page_count.ensures) (c.if-not-number-page_count.false)
    in
    let cleared = c.clear in
    let a = c.args in
    let settled = page_printed a.runs a.columns a.levels.now a.table.now a.number (length a.page.now) stands long there in
    page_promised _ _ _ _ _ _ (settled.0, put_padded {bytes = page_text (given_sheet a.runs a.columns a.levels.now a.table.now) a.number} (length a.page.now) cleared.ensures c.put_page.ensures ∙ settled.1)
