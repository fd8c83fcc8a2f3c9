-- `fill` meets its contract: the level counts and the runs are put at the front of zeros.
-- Assumes nothing.
use mathlib.Core.Path.{sym, ◌∙◌}
use native.Mathlib.Nat.{le_trans}
use lib.Dec.{lit≤}
use Rattle.galois.proofs.Fields.{size_positive}
use Rattle.layout.specs.Step.{Left}
use Rattle.layout.proofs.Rows.{put_holds}
use Rattle.layout.proofs.Sheets.{held_answer}
use Rattle.generated_runs.proofs.FieldSheet.{sheet_runs, sheet_columns}
use Rattle.generating.proofs.fill.Goals as goal

pub power-runs-requires : goal.power-runs-requires
power-runs-requires c = let known = c.requires.field_stands in (size_positive _ known.size, le_trans known.runs_most (lit≤ tt))

pub power-requires : goal.power-requires
power-requires c =
    let known = c.requires.field_stands in
    (size_positive _ known.size, le_trans c.widest-width.ensures.1 (lit≤ tt))

pub returns : goal.returns
unfolding Left
returns c =
    let pre = c.requires in
    let runs = c.power-runs.ensures in
    let holds = put_holds _ pre.in_bounds.1 pre.in_bounds_2.1 c.put_runs.ensures c.put_levels.ensures in
    (held_answer holds (runs ∙ sym (sheet_runs pre.field_stands)) (sym (sheet_columns pre.field_stands)) c.sheet_answer.ensures, holds)
