-- `page_putting::put_run_or_blank` meets its contract: the run's line, or a blank one.
use Prim.Native.Nat.{◌+◌, ◌*◌, ◌≤◌}
use native.Mathlib.Omega.{arith}
use lib.ListN.{length}
use Rattle.page_putting.proofs.Parts.{levels_within, line_blank, line_run}
use Rattle.page_putting.proofs.put_run_or_blank.Goals as goal

pub returns-then-runs-run : goal.returns-then-runs-run
returns-then-runs-run c =
    rw (← line_blank c.requires.part_in c.if-runs-run.true) c.put_blank_line.ensures

pub overflow_mul-start : goal.overflow_mul-start
overflow_mul-start c =
    let within : let a = c.args in a.run * a.columns + a.part.end ≤ length a.table.now =
    levels_within c.requires.part_in c.if-runs-run.false
    in
    omega (arith, within)

pub overflow_add-start : goal.overflow_add-start
overflow_add-start c =
    let within : let a = c.args in a.run * a.columns + a.part.end ≤ length a.table.now =
    levels_within c.requires.part_in c.if-runs-run.false
    in
    omega (arith, within, c.requires.part_in.first_before)

pub overflow_mul-end : goal.overflow_mul-end
overflow_mul-end c =
    let within : let a = c.args in a.run * a.columns + a.part.end ≤ length a.table.now =
    levels_within c.requires.part_in c.if-runs-run.false
    in
    omega (arith, within)

pub overflow_add-end : goal.overflow_add-end
overflow_add-end c =
    let within : let a = c.args in a.run * a.columns + a.part.end ≤ length a.table.now =
    levels_within c.requires.part_in c.if-runs-run.false
    in
    omega (arith, within)

pub returns : goal.returns
returns c =
    rw (← line_run c.requires.part_in c.if-runs-run.false) c.put_run_line.ensures
