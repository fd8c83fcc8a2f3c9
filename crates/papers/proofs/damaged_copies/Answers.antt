-- `papers::damaged_copies` meets its contract: antt computes the tests of each changed copy.
-- Assumes nothing.
use Rattle.findings.proofs.Written.{written_table, written_matrix}
use Rattle.papers.proofs.damaged_copies.Goals as goal

pub report_table-requires : goal.report_table-requires
report_table-requires g c = written_table _ _ _ tt

pub report_table-requires-2 : goal.report_table-requires-2
report_table-requires-2 g c = written_table _ _ _ tt

pub report_matrix-requires : goal.report_matrix-requires
report_matrix-requires g c = written_matrix _ _ _ _ tt
