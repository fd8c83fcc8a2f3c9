-- `papers::difference_matrices` meets its contract: antt computes the tests of each matrix.
-- Assumes nothing.
use Rattle.findings.proofs.Written.{written_matrix}
use Rattle.papers.proofs.difference_matrices.Goals as goal

pub report_matrix-requires : goal.report_matrix-requires
report_matrix-requires g c = written_matrix _ _ _ _ tt

pub report_matrix-requires-2 : goal.report_matrix-requires-2
report_matrix-requires-2 g c = written_matrix _ _ _ _ tt

pub report_matrix-requires-3 : goal.report_matrix-requires-3
report_matrix-requires-3 g c = written_matrix _ _ _ _ tt

pub report_matrix-requires-4 : goal.report_matrix-requires-4
report_matrix-requires-4 g c = written_matrix _ _ _ _ tt

pub report_matrix-requires-5 : goal.report_matrix-requires-5
report_matrix-requires-5 g c = written_matrix _ _ _ _ tt

pub report_matrix-requires-6 : goal.report_matrix-requires-6
report_matrix-requires-6 g c = written_matrix _ _ _ _ tt

pub report_matrix-requires-7 : goal.report_matrix-requires-7
report_matrix-requires-7 g c = written_matrix _ _ _ _ tt

pub report_matrix-requires-8 : goal.report_matrix-requires-8
report_matrix-requires-8 g c = written_matrix _ _ _ _ tt

pub report_matrix-requires-9 : goal.report_matrix-requires-9
report_matrix-requires-9 g c = written_matrix _ _ _ _ tt

pub report_matrix-requires-10 : goal.report_matrix-requires-10
report_matrix-requires-10 g c = written_matrix _ _ _ _ tt
