-- `merge_runs` meets its contract. The invariant: the runs of the next sheet before the run in hand are put.
use mathlib.Core.Path.{refl}
use native.Mathlib.Omega.{arith}
use Rattle.counting.specs.Table.{table_of}
use Rattle.step_tables.specs.Merge.{merge_step}
use Rattle.step_tables.specs.Sheet.{from_sources}
use Rattle.merged_sheet.proofs.Sheet.{merged_byte, merged_columns, merged_run, fewer_columns, runs_none, runs_next, runs_all}
use Rattle.merged_sheet.proofs.merge_runs.Goals as goal

pub loop-run-init : goal.loop-run-init
loop-run-init c = runs_none _ _ _

pub merged_level-merged-requires-clause-c1_in_bounds : goal.merged_level-merged-requires-clause-c1_in_bounds
merged_level-merged-requires-clause-c1_in_bounds c =
    merged_columns c.requires.fitting c.loop-run.run _ c.loop-run-test.true refl _ _ c.column_of-c1.ensures c.column_of-c2.ensures

pub merged_level-merged-requires-clause-c2_bound : goal.merged_level-merged-requires-clause-c2_bound
merged_level-merged-requires-clause-c2_bound c =
    merged_byte c.requires.fitting c.loop-run.run _ c.loop-run-test.true refl _ _ c.column_of-c1.ensures c.column_of-c2.ensures

pub loop-run-preserved : goal.loop-run-preserved
loop-run-preserved c =
    let pre = c.requires in
    runs_next _ _ c.loop-run.run (fewer_columns pre.fitting) c.loop-run.invariant
    (rw (merged_run pre.fitting c.loop-run.run _ c.loop-run-test.true refl _ _ c.column_of-c1.ensures c.column_of-c2.ensures _ _ pre.levels_in_bounds.1 c.merged_level-merged.ensures)
    at c.merge_row-place.ensures)

pub returns : goal.returns
unfolding merge_step from_sources table_of
returns c = runs_all _ _ (omega arith) c.loop-run.invariant
