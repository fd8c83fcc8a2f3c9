-- `papers::other_tables` meets its contract: antt computes the tests of each table.
-- Assumes nothing.
use Rattle.findings.proofs.Written.{written_table}
use Rattle.papers.proofs.other_tables.Goals as goal

pub report_table-requires : goal.report_table-requires
report_table-requires g c = written_table _ _ _ tt

pub report_table-requires-2 : goal.report_table-requires-2
report_table-requires-2 g c = written_table _ _ _ tt

pub report_table-requires-3 : goal.report_table-requires-3
report_table-requires-3 g c = written_table _ _ _ tt

pub report_table-requires-4 : goal.report_table-requires-4
report_table-requires-4 g c = written_table _ _ _ tt

pub report_table-requires-5 : goal.report_table-requires-5
report_table-requires-5 g c = written_table _ _ _ tt
