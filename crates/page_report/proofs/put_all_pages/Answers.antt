-- `page_report::put_all_pages` meets its contract. The invariant: so many pages are put, of 4,800 bytes each.
use native.Mathlib.Omega.{arith}
use Rattle.page_report.proofs.Pages.{pages_none, pages_next, page_end, all_put}
use Rattle.page_report.proofs.put_all_pages.Goals as goal

pub loop-before-init : goal.loop-before-init
loop-before-init c = (omega arith, pages_none _ _)

pub loop-before-preserved : goal.loop-before-preserved
loop-before-preserved c =
    let put = c.put_page-place.ensures in (
      omega (arith, page_end c.requires.well_formed _ (omega (arith, c.loop-before-test.true, c.page_count-count.ensures)) put),
      pages_next _ c.loop-before.before c.loop-before.invariant.1 put,
    )

pub returns : goal.returns
returns c =
    all_put c.requires.well_formed _ (omega (arith, c.loop-before-test.false, c.page_count-count.ensures)) c.loop-before.invariant.1
