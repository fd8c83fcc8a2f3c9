-- `page_report::put_asked` meets its contract: all pages, or one.
use Rattle.page_report.specs.PageReport.{sheet_pages}
use Rattle.page_report.proofs.put_asked.Goals as goal

pub returns-in-All : goal.returns-in-All
unfolding sheet_pages
returns-in-All c = rw c.in-All.is c.put_all_pages.ensures

pub returns-in-One : goal.returns-in-One
returns-in-One c = rw c.in-One.is c.put_one_page.ensures
