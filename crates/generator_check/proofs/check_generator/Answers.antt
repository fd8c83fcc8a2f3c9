-- `check_generator` meets its contract: the quick test, then an only factor by itself, else the pairs.
-- Assumes nothing.
use mathlib.Core.Path.{sym, ◌∙◌, ap}
use native.Mathlib.Omega.{arith}
use Rattle.galois.proofs.Fields.{size_positive}
use Rattle.counting.specs.Generator.{generator_of, width}
use Rattle.counting.specs.GeneratorVerdict.{generator_finding, generator_verdict}
use Rattle.counting.proofs.GeneratorVerdicts.{fault_only, fault_pairs}
use Rattle.combining.proofs.Factors.{one_block, only_least, only_nothing}
use Rattle.generator_check.proofs.check_generator.Goals as goal

pub least_dependence-requires : goal.least_dependence-requires
unfolding width
least_dependence-requires c = rw (c.columns_before-row.ensures, c.factor_block.ensures) (one_block _ _ _ _ c.requires 0 (omega arith))

pub returns-in-Some : goal.returns-in-Some
unfolding generator_verdict generator_of width
returns-in-Some c =
    sym (ap generator_finding (fault_only _ _ _ (size_positive _ c.requires.size) c.if-widths-eq1.true
    ∙ only_least _ _ _ _ c.requires _ (sym c.in-Some.is ∙ (rw (c.columns_before-row.ensures, c.factor_block.ensures) at c.least_dependence.ensures))))

pub returns-in-None : goal.returns-in-None
unfolding generator_verdict generator_of width
returns-in-None c =
    sym (ap generator_finding (fault_only _ _ _ (size_positive _ c.requires.size) c.if-widths-eq1.true
    ∙ only_nothing _ _ _ _ c.requires (sym c.in-None.is ∙ (rw (c.columns_before-row.ensures, c.factor_block.ensures) at c.least_dependence.ensures))))

pub returns : goal.returns
unfolding generator_verdict generator_of width
returns c = c.dependent_pair.ensures ∙ sym (ap generator_finding (fault_pairs _ _ _ (size_positive _ c.requires.size) c.if-widths-eq1.false))

pub all_distinct-requires-clause-row_value : goal.all_distinct-requires-clause-row_value
unfolding width
all_distinct-requires-clause-row_value c = c.columns_before-row.ensures

pub dependent_pair-requires-clause-row_value : goal.dependent_pair-requires-clause-row_value
unfolding width
dependent_pair-requires-clause-row_value c = c.columns_before-row.ensures
