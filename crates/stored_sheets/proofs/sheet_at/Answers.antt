-- `stored_sheets::sheet_at` meets its contract: the product of two numbers of sixteen bits does not overflow.
use Rattle.stored_sheets.specs.StoredSheets.{stored_sheet}
use Rattle.stored_sheets.proofs.sheet_at.Goals as goal

pub returns-clause-value : goal.returns-clause-value
unfolding stored_sheet
returns-clause-value c = rw (c.least-given.ensures, c.number_at-4.ensures.value, c.least-bytes.ensures, c.number_at-3.ensures.value, c.number_at-2.ensures.value, c.least-counts.ensures, c.number_at.ensures.value)
