-- `row_combination` meets its contract: the later block is combined first, and the earlier one onto it.
-- Assumes nothing.
use Rattle.galois.proofs.Fields.{size_positive}
use Rattle.combining.proofs.Combinings.{combined_below, row_combined}
use Rattle.distinct_combinations.proofs.row_combination.Goals as goal

pub combine-last-requires-clause-so_far_bound : goal.combine-last-requires-clause-so_far_bound
combine-last-requires-clause-so_far_bound c = size_positive _ c.requires.elements_at_2.size

pub combine-all-requires-clause-so_far_bound : goal.combine-all-requires-clause-so_far_bound
combine-all-requires-clause-so_far_bound c = rw c.combine-last.ensures (combined_below _ _ _ _ _ c.requires.elements_at_2 (size_positive _ c.requires.elements_at_2.size))

pub returns : goal.returns
returns c = rw (c.combine-all.ensures, c.combine-last.ensures) (row_combined _ _ _ _ _ _)
