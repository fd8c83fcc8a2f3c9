-- `papers::small_generators` meets its contract: antt computes the tests of each generator.
-- Assumes nothing.
use Rattle.finite.specs.Sum.{sum}
use Rattle.galois.specs.Arithmetic.{field_size}
use Rattle.counting.specs.Generator.{width}
use Rattle.findings.proofs.Written.{written_generator}
use Rattle.papers.proofs.small_generators.Goals as goal

pub report_generator-requires : goal.report_generator-requires
unfolding field_size width sum
report_generator-requires g c = written_generator _ _ _ _ tt

pub report_generator-requires-2 : goal.report_generator-requires-2
unfolding field_size width sum
report_generator-requires-2 g c = written_generator _ _ _ _ tt
