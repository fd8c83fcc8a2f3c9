-- `page_report::put_one_page` meets its contract: the page, or the refusal of one that there is not.
use mathlib.Core.Path.{◌≡◌}
use mathlib.Core.Bool.{true, false, ◌&&◌}
use native.Mathlib.Omega.{arith}
use lib.Dec.{leb}
use Rattle.page_text.specs.Pages.{page_count}
use Rattle.page_report.proofs.Pages.{asked_there, one_put, none_put}
use Rattle.page_report.proofs.put_one_page.Goals as goal

pub page_count-requires : goal.page_count-requires
page_count-requires c = let sheet = c.requires.well_formed in (sheet.runs_most, sheet.columns_most)

pub returns-then-not-number-page_count : goal.returns-then-not-number-page_count
returns-then-not-number-page_count c =
    let a = c.args in
    let none : (leb 1 a.number && leb a.number (page_count a.runs a.columns)) ≡ false = rw (← c.page_count.ensures) (c.if-not-number-page_count.true) in
    none_put c.requires.well_formed a.number none c.put_refusal.ensures

pub put_page-requires : goal.put_page-requires
put_page-requires c =
    -- there is such a page
    let there : let a = c.args in (leb 1 a.number && leb a.number (page_count a.runs a.columns)) ≡ true =
    rw (← c.page_count.ensures) (c.if-not-number-page_count.false)
    in
    let asked = asked_there _ _ there in
    record { well_formed = c.requires.well_formed; le_number = (asked.0, asked.1, omega (arith, c.requires.page_room_in_bounds)) }

pub returns : goal.returns
returns c =
    let there : let a = c.args in (leb 1 a.number && leb a.number (page_count a.runs a.columns)) ≡ true =
    rw (← c.page_count.ensures) (c.if-not-number-page_count.false)
    in
    one_put c.requires.well_formed _ there c.put_page.ensures
