-- `page_putting::page_part` meets its contract.
use native.Mathlib.Omega.{arith}
use Rattle.page_putting.proofs.Parts.{blocks_some, run_small, column_small, part_is}
use Rattle.page_putting.proofs.page_part.Goals as goal

pub nonzero_rem-run : goal.nonzero_rem-run
nonzero_rem-run c = let h = c.requires in blocks_some _ _ _ c.run_parts-blocks.ensures h.0 h.3 h.4

pub overflow_mul-run : goal.overflow_mul-run
overflow_mul-run c = let h = c.requires in omega (arith, run_small _ _ _ c.run_parts-blocks.ensures h.0 h.3 h.4)

pub nonzero_div-column : goal.nonzero_div-column
nonzero_div-column c = nonzero_rem-run c

pub overflow_mul-column : goal.overflow_mul-column
overflow_mul-column c = let h = c.requires in omega (arith, column_small _ _ _ c.run_parts-blocks.ensures h.0 h.3 h.4)

pub overflow_add-column : goal.overflow_add-column
overflow_add-column c = let h = c.requires in omega (arith, column_small _ _ _ c.run_parts-blocks.ensures h.0 h.3 h.4)

pub returns : goal.returns
returns c = let h = c.requires in part_is _ _ _ c.run_parts-blocks.ensures h.0 h.3 h.4 c.min.ensures
